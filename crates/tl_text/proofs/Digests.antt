-- Digests as pairs of digits.
use Rattle.std.proofs.Common.{◌≡◌, ℕ, zero, suc, ◌+◌, ◌-◌, ◌*◌, ◌/◌, ◌%◌, ◌<◌, ◌≤◌, List, [], ◌∷◌, ◌++◌, length, take, drop, get_or, replicate, Ok, refl, sym, ap, ◌∙◌, arith, inl, inr}
use Rattle.std.specs.List.{All}
use Rattle.std.proofs.lemmas.Bool.{cases_lt}
use Rattle.std.proofs.lemmas.List.{append-nil, append_cancel_left, length-append, length-take-le, take-append-drop, length-replicate, take_at, get_or_append_left, get_or-append_right, get_or-replicate, get_or-take, get_or_past}
use Rattle.std.proofs.lemmas.List.Elements.{All-nil, All-cons}
use Rattle.hex.specs.Hex.{IsBytes, encode_lower, encode_with, lower_digits, decode_of, decode_sized}
use Rattle.hex.proofs.HexLemmas.{length-encode_with, decode_of-encode_lower}
use Rattle.tl_text.specs.Digest.{IsDigest}
use Rattle.tl_text.specs.HexDigit.{hex_digit, IsHexDigit}
use Rattle.tl_text.specs.Place.{CanBegin, IsFirstBad}
use Rattle.tl_text.proofs.Places.{refused_by_byte}

abbrev IsByte : ℕ → Type 0
IsByte byte = byte < 256

bytes_at : (bytes : List ℕ) → All IsByte bytes → IsBytes bytes
bytes_at bytes small i = elim (cases_lt i (length bytes)) [ inl lt ↦ small i 0 lt | inr le ↦ rw (get_or_past bytes i 0 le) (omega arith) ]

-- each byte below the place is a digit
abbrev pub DigitsBelow : ℕ → List ℕ → Type 0
DigitsBelow place text = (i : ℕ) → i < place → IsHexDigit (get_or text i 0)

-- digits in pairs are the text of some bytes
pairs : (n : ℕ) (digits : List ℕ) → length digits ≡ 2 * n → DigitsBelow (length digits) digits → (bytes : List ℕ) × (encode_lower bytes ≡ digits) × All IsByte bytes × (length bytes ≡ n)
unfolding encode_with
pairs n [] e d = ([], refl, All-nil IsByte, omega (arith, e))
pairs n (c ∷ []) e d = absurd (omega (arith, e))
pairs zero (c ∷ f ∷ digits) e d = absurd (omega (arith, e))
pairs (suc n) (c ∷ f ∷ digits) e d =
    let high = d 0 (omega arith) in
    let low = d 1 (omega arith) in
    let ih = pairs n digits (omega (arith, e)) (λ i lt. d (suc (suc i)) (omega arith)) in
    let first : (high.0 * 16 + low.0) / 16 ≡ high.0 = omega (arith, high.1, low.1) in
    let second : (high.0 * 16 + low.0) % 16 ≡ low.0 = omega (arith, high.1, low.1) in
    ((high.0 * 16 + low.0) ∷ ih.0, rw (first, second, high.2, low.2, ih.1) refl, All-cons IsByte (high.0 * 16 + low.0) ih.0 (omega (arith, high.1, low.1)) ih.2, ap suc ih.3)

-- and of bytes there are digits
digits_of : (bytes : List ℕ) (i : ℕ) → All IsByte bytes → i < length (encode_lower bytes) → IsHexDigit (get_or (encode_lower bytes) i 0)
unfolding encode_with
digits_of [] i small lt = absurd (omega arith)
digits_of (b ∷ bytes) zero small lt = let byte : b < 256 = small 0 0 (omega arith) in (b / 16, omega arith, refl)
digits_of (b ∷ bytes) (suc zero) small lt = (b % 16, omega arith, refl)
digits_of (b ∷ bytes) (suc (suc i)) small lt = digits_of bytes i (λ k d h. small (suc k) d (omega arith)) (omega arith)

encoded_length : (bytes : List ℕ) → length bytes ≡ 32 → length (encode_lower bytes) ≡ 64
encoded_length bytes e = let two : length (encode_lower bytes) ≡ 2 * length bytes = length-encode_with lower_digits bytes in omega (arith, two, e)

pub one_digest_stands : (text v w r s : List ℕ) → IsDigest text v r → IsDigest text w s → (v ≡ w) × (r ≡ s)
one_digest_stands text v w r s g h =
    let both : encode_lower v ++ r ≡ encode_lower w ++ s = sym g.spelled ∙ h.spelled in
    let fronts : encode_lower v ≡ encode_lower w = sym (take_at (encode_lower v) r 64 (encoded_length v g.size)) ∙ ap (λ (t : List ℕ). take 64 t) both ∙ take_at (encode_lower w) s 64 (encoded_length w h.size) in
    let decoded = sym (decode_of-encode_lower v (bytes_at v g.small)) ∙ ap decode_of fronts ∙ decode_of-encode_lower w (bytes_at w h.small) in
    (cc decoded, append_cancel_left (encode_lower v) r s (both ∙ ap (λ (t : List ℕ). t ++ s) (sym fronts)))

-- the digits of some bytes begin with these
completed : (front more bytes : List ℕ) → encode_lower bytes ≡ front ++ more → All IsByte bytes → length bytes ≡ 32 → CanBegin IsDigest front
completed front more bytes e small size = (more, bytes, [], record { spelled = sym e ∙ sym (append-nil (encode_lower bytes)); small = small; size = size })

begins : (place : ℕ) (text : List ℕ) → place ≤ 64 → place ≤ length text → DigitsBelow place text → CanBegin IsDigest (take place text)
begins place text le within d =
    let front : length (take place text) ≡ place = length-take-le place text within in
    let long : length (take place text ++ replicate (64 - place) 48) ≡ 64 = length-append (take place text) (replicate (64 - place) 48) ∙ rw (front, length-replicate {A = ℕ} (64 - place) 48) (omega arith) in
    let made = pairs 32 (take place text ++ replicate (64 - place) 48) (omega (arith, long)) (λ i lt. filled i (omega (arith, long))) in
    completed (take place text) (replicate (64 - place) 48) made.0 made.1 made.2 made.3
  where
    filled : (i : ℕ) → i < 64 → IsHexDigit (get_or (take place text ++ replicate (64 - place) 48) i 0)
    filled i lt =
        let front : length (take place text) ≡ place = length-take-le place text within in
        elim (cases_lt i place) [
          | inl below ↦ rw (get_or_append_left (take place text) (replicate (64 - place) 48) 0 i (omega (arith, front)), get_or-take place text i 0 below) (d i below)
          | inr past ↦ rw (get_or-append_right (take place text) (replicate (64 - place) 48) place i 0 front past, get_or-replicate {A = ℕ} (64 - place) (i - place) 48 0 (omega arith)) (0, omega arith, refl)
        ]

pub refused_digit : (place : ℕ) (text : List ℕ) → place < 64 → place ≤ length text → DigitsBelow place text → ((n : ℕ) → n < 16 → place < length text → hex_digit n ≡ get_or text place 0 → ⊥) → IsFirstBad IsDigest text place
refused_digit place text lt within d wrong =
    refused_by_byte IsDigest IsHexDigit text place within (begins place text (omega arith) within d) (λ t v rest h same. stands t v rest h) (λ some h. wrong h.0 h.1 some h.2)
  where
    stands : (t v rest : List ℕ) → IsDigest t v rest → (place < length t) × IsHexDigit (get_or t place 0)
    stands t v rest h =
        let long : length (encode_lower v) ≡ 64 = encoded_length v h.size in
        rw (h.spelled) ((let sum : length (encode_lower v ++ rest) ≡ length (encode_lower v) + length rest = length-append (encode_lower v) rest in omega (arith, sum, long)), rw (get_or_append_left (encode_lower v) rest 0 place (omega (arith, long))) (digits_of v place h.small (omega (arith, long))))

-- sixty-four digits are a digest
pub digest_stands : (text : List ℕ) → 64 ≤ length text → DigitsBelow 64 text → (bytes : List ℕ) × IsDigest text bytes (drop 64 text) × (decode_sized (take 64 text) 32 ≡ Ok bytes)
digest_stands text le d =
    let long : length (take 64 text) ≡ 64 = length-take-le 64 text le in
    let made = pairs 32 (take 64 text) (omega (arith, long)) (λ i lt. rw (get_or-take 64 text i 0 (omega (arith, long))) (d i (omega (arith, long)))) in (
      made.0,
      record { spelled = sym (take-append-drop 64 text) ∙ ap (λ (t : List ℕ). t ++ drop 64 text) (sym made.1); small = made.2; size = made.3 },
      sized (take 64 text) long ∙ ap decode_of (sym made.1) ∙ decode_of-encode_lower made.0 (bytes_at made.0 made.2),
    )
  where
    sized : (s : List ℕ) → length s ≡ 64 → decode_sized s 32 ≡ decode_of s
    sized s e = rw e refl
