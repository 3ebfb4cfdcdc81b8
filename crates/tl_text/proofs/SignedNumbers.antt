-- Signed numbers, as numbers with and without `-`.
use Rattle.std.proofs.Common.{◌≡◌, ◌≢◌, ℕ, zero, suc, ◌+◌, ◌-◌, ◌^◌, ◌<◌, ◌≤◌, ℤ, pos, negsuc, List, [], ◌∷◌, ◌++◌, length, take, get_or, refl, sym, ap, subst, ◌∙◌, add-one, arith, inl, inr}
use Rattle.std.specs.Fmt.{decimal}
use Rattle.std.proofs.lemmas.Bool.{cases_lt, cases_eq}
use Rattle.std.proofs.lemmas.Fmt.{first_decimal, decimal_digit, decimal_nonempty}
use Rattle.std.proofs.lemmas.List.{append-nil, length-append, get_or_append_left}
use Rattle.tl_text.specs.Number.{IsNumber}
use Rattle.tl_text.specs.Place.{CanBegin, IsFirstBad}
use Rattle.tl_text.specs.Signed.{IsSigned}
use Rattle.tl_text.proofs.Numbers.{none_without_digit, one_number_stands}
use Rattle.tl_text.proofs.Places.{refused_by_byte}

-- ---- with `-`

pub negative : (digits rest : List ℕ) (n : ℕ) → 0 < n → IsNumber 9223372036854775808 digits n rest → IsSigned (45 ∷ digits) (negsuc (n - 1)) rest
negative digits rest n some h =
    let same : suc (n - 1) ≡ n = omega arith in
    let le : n ≤ 9223372036854775808 = h.small in
    record { spelled = ap (λ (t : List ℕ). 45 ∷ t) h.spelled ∙ ap (λ (k : ℕ). 45 ∷ (decimal k ++ rest)) (sym same); fits = record { sfits = omega arith }; whole = h.whole }

pub from_negative : (digits rest : List ℕ) (z : ℤ) → IsSigned (45 ∷ digits) z rest → (m : ℕ) × (z ≡ negsuc m) × IsNumber 9223372036854775808 digits (suc m) rest
from_negative digits rest (pos n) h = absurd (none_without_digit 9223372036854775807 n (45 ∷ digits) rest (omega arith) (λ d. omega (arith, d.0)) (record { spelled = h.spelled; small = let f : n < 2 ^ 63 = h.fits.sfits in omega arith; whole = h.whole }))
from_negative digits rest (negsuc m) h = (m, refl, record { spelled = cc (h.spelled); small = let f : m < 2 ^ 63 = h.fits.sfits in omega arith; whole = h.whole })

-- the digits after `-` begin with one other than 0
digit_after : (text rest : List ℕ) (z : ℤ) → IsSigned text z rest → take 1 text ≡ 45 ∷ [] → (1 < length text) × (48 < get_or text 1 0)
digit_after [] rest z h e = absurd cc
digit_after (c ∷ text) rest z h e =
    let minus : c ≡ 45 = cc in
    let n = from_negative text rest z (subst (λ b. IsSigned (b ∷ text) z rest) minus h) in
    let number = n.2 in
    let le : suc n.0 ≤ 9223372036854775808 = number.small in
    let some : 0 < length (decimal (suc n.0)) = decimal_nonempty (suc n.0) (omega arith) in
    let first : 48 < get_or (decimal (suc n.0)) 0 0 = first_decimal (suc n.0) (omega arith) (omega arith) in
    let same : get_or text 0 0 ≡ get_or (decimal (suc n.0)) 0 0 = ap (λ (t : List ℕ). get_or t 0 0) number.spelled ∙ get_or_append_left (decimal (suc n.0)) rest 0 0 some in
    let size : length text ≡ length (decimal (suc n.0)) + length rest = ap length number.spelled ∙ simp length-append in
    (omega arith, omega arith)

minus_begins : CanBegin IsSigned (45 ∷ [])
minus_begins = (49 ∷ [], negsuc 0, [], record { spelled = ap (λ (t : List ℕ). 45 ∷ t) (sym (append-nil (decimal 1) ∙ decimal_digit 1 (omega arith))); fits = record { sfits = omega arith }; whole = tt })

pub refused_after_minus : (digits : List ℕ) → (0 < length digits → get_or digits 0 0 ≡ 48) → IsFirstBad IsSigned (45 ∷ digits) 1
refused_after_minus digits zero_first =
    refused_by_byte IsSigned (λ c. 48 < c) (45 ∷ digits) 1 (omega arith) minus_begins (λ t z rest h same. digit_after t rest z h same) (λ lt h. let e : get_or digits 0 0 ≡ 48 = zero_first (omega arith) in omega arith)

pub refused_negative : (digits : List ℕ) (place : ℕ) → 0 < length digits → get_or digits 0 0 ≢ 48 → IsFirstBad (IsNumber 9223372036854775808) digits place → IsFirstBad IsSigned (45 ∷ digits) (place + 1)
refused_negative digits place some odd bad = record {
  none = λ z rest h. let n = from_negative digits rest z h in bad.none (suc n.0) rest n.2;
  within = let w : place ≤ length digits = bad.within in omega arith;
  before = rw add-one (goes_on place bad.before);
  there = λ lt b.
      let n = from_negative (take (place + 1) digits ++ b.0) b.2 b.1 (subst (λ t. IsSigned (t ++ b.0) b.1 b.2) (next (place + 1) digits) b.3) in
      bad.there (omega arith) (b.0, suc n.0, b.2, n.2);
}
  where
    next : (n : ℕ) (digits : List ℕ) → take (n + 1) (45 ∷ digits) ≡ 45 ∷ take n digits
    next n digits = rw add-one refl

    goes_on : (place : ℕ) → CanBegin (IsNumber 9223372036854775808) (take place digits) → CanBegin IsSigned (45 ∷ take place digits)
    goes_on zero b = minus_begins
    goes_on (suc place) b =
        elim (cases_lt 0 b.1) [
          | inl above ↦ (b.0, negsuc (b.1 - 1), b.2, negative (take (suc place) digits ++ b.0) b.2 b.1 above b.3)
          | inr none ↦ absurd (odd (first digits b some none))
        ]
      where
        first : (digits : List ℕ) (b : CanBegin (IsNumber 9223372036854775808) (take (suc place) digits)) → 0 < length digits → b.1 ≤ 0 → get_or digits 0 0 ≡ 48
        first [] b some none = absurd (omega arith)
        first (c ∷ digits) b some none =
            let e : b.1 ≡ 0 = omega arith in
            let spelled : c ∷ (take place digits ++ b.0) ≡ 48 ∷ b.2 = b.3.spelled ∙ ap (λ (k : ℕ). decimal k ++ b.2) e ∙ ap (λ (t : List ℕ). t ++ b.2) (decimal_digit 0 (omega arith)) in
            cc

-- ---- without

pub positive : (text rest : List ℕ) (n : ℕ) → IsNumber 9223372036854775807 text n rest → IsSigned text (pos n) rest
positive text rest n h = let le : n ≤ 9223372036854775807 = h.small in record { spelled = h.spelled; fits = record { sfits = omega arith }; whole = h.whole }

pub from_positive : (text rest : List ℕ) (z : ℤ) → (0 < length text → get_or text 0 0 ≢ 45) → IsSigned text z rest → (n : ℕ) × (z ≡ pos n) × IsNumber 9223372036854775807 text n rest
from_positive text rest (pos n) odd h = (n, refl, record { spelled = h.spelled; small = let f : n < 2 ^ 63 = h.fits.sfits in omega arith; whole = h.whole })
from_positive [] rest (negsuc m) odd h = absurd cc
from_positive (c ∷ text) rest (negsuc m) odd h = let e : c ∷ text ≡ 45 ∷ (decimal (suc m) ++ rest) = h.spelled in absurd (odd (omega arith) cc)

pub refused_positive : (text : List ℕ) (place : ℕ) → (0 < length text → get_or text 0 0 ≢ 45) → IsFirstBad (IsNumber 9223372036854775807) text place → IsFirstBad IsSigned text place
refused_positive text place odd bad = record {
  none = λ z rest h. let n = from_positive text rest z odd h in bad.none n.0 rest n.2;
  within = bad.within;
  before = let b = bad.before in (b.0, pos b.1, b.2, positive (take place text ++ b.0) b.2 b.1 b.3);
  there = λ lt b.
      let n = from_positive (take (place + 1) text ++ b.0) b.2 b.1 (λ some e. odd (omega arith) (sym (same_first place text b.0 lt) ∙ e)) b.3 in
      bad.there lt (b.0, n.0, b.2, n.2);
}
  where
    same_first : (place : ℕ) (text more : List ℕ) → place < length text → get_or (take (place + 1) text ++ more) 0 0 ≡ get_or text 0 0
    same_first place [] more lt = absurd (omega arith)
    same_first place (c ∷ text) more lt = rw add-one refl

-- ---- one reading

pub one_signed_stands : (text : List ℕ) (y z : ℤ) (r s : List ℕ) → IsSigned text y r → IsSigned text z s → (y ≡ z) × (r ≡ s)
one_signed_stands [] y z r s g h = let n = from_positive [] r y (λ lt. absurd (omega arith)) g in absurd (none_without_digit 9223372036854775807 n.0 [] r (omega arith) tt n.2)
one_signed_stands (c ∷ text) y z r s g h =
    elim (cases_eq c 45) [
      | inl e ↦
          let m = from_negative text r y (subst (λ b. IsSigned (b ∷ text) y r) e g) in
          let n = from_negative text s z (subst (λ b. IsSigned (b ∷ text) z s) e h) in
          let one = one_number_stands 9223372036854775808 (suc m.0) (suc n.0) text r s (omega arith) m.2 n.2 in
          let same : m.0 ≡ n.0 = let e : suc m.0 ≡ suc n.0 = one.0 in omega arith in
          (m.1 ∙ ap negsuc same ∙ sym n.1, one.1)
      | inr odd ↦
          let m = from_positive (c ∷ text) r y (λ lt. odd) g in
          let n = from_positive (c ∷ text) s z (λ lt. odd) h in
          let one = one_number_stands 9223372036854775807 m.0 n.0 (c ∷ text) r s (omega arith) m.2 n.2 in
          (m.1 ∙ ap pos one.0 ∙ sym n.1, one.1)
    ]

-- digits that begin with one other than 0 are those of a number above it
pub above_zero : (limit n : ℕ) (digits rest : List ℕ) → IsNumber limit digits n rest → get_or digits 0 0 ≢ 48 → 0 < n
above_zero limit n digits rest h odd =
    elim (cases_lt 0 n) [
      | inl above ↦ above
      | inr none ↦
          let e : n ≡ 0 = omega arith in
          let spelled : digits ≡ 48 ∷ rest = h.spelled ∙ ap (λ (k : ℕ). decimal k ++ rest) e ∙ ap (λ (t : List ℕ). t ++ rest) (decimal_digit 0 (omega arith)) in
          absurd (odd (ap (λ (t : List ℕ). get_or t 0 0) spelled))
    ]
