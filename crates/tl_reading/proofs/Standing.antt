-- A number that stands before a space or at the end, and a header's words.
use Rattle.std.proofs.Common.{◌≡◌, ℕ, suc, Bool, true, ◌==◌, ◌<◌, ◌^◌, List, [], ◌∷◌, ◌++◌, codes, decimal, false, length, ◌*◌, refl, sym, ◌∙◌, ap, arith, append_assoc, append-nil}
use Rattle.std.proofs.lemmas.Bool.{eqb-true, false_from_ne_true}
use Rattle.std.proofs.lemmas.List.{append_cancel_left}
use Rattle.hex.specs.Hex.{encode_lower, lower_digits}
use Rattle.hex.proofs.HexLemmas.{length-encode_with}
use Rattle.tl_types.specs.declared.digest.Digest.{Digest}
use Rattle.tl_types.specs.declared.file_id.FileId.{FileId}
use Rattle.tl_text.specs.Digest.{IsDigest}
use Rattle.tl_text.specs.File.{file_text}
use Rattle.tl_text.specs.Number.{BeginsWithNoDigit, IsNumber}
use Rattle.tl_text.proofs.Numbers.{one_number_stands}
use Rattle.tl_model.specs.declared.header.Version.{Version}
use Rattle.tl_script.specs.Tokens.{a_number, Stands}
use Rattle.tl_spelling.specs.Journals.{version_word}
use Rattle.tl_spelling.specs.Shown.{IsSum}
use Rattle.tl_spelling.proofs.Cuts.{no_digit_at_space, tail_of}
use Rattle.tl_spelling.proofs.OneJournal.{one_version}

-- ---- numbers

pub stands_before : (below n : ℕ) (text rest : List ℕ) → below < 2 ^ 64 → n < below → text ≡ decimal n ++ 0x20 ∷ rest → Stands text (a_number n) (0x20 ∷ rest)
stands_before below n text rest fits lt e = (record { spelled = e; small = omega (arith, fits, lt); whole = no_digit_at_space rest }, refl)

pub stands_last : (below n : ℕ) (text : List ℕ) → below < 2 ^ 64 → n < below → text ≡ decimal n → Stands text (a_number n) []
stands_last below n text fits lt e = (record { spelled = e ∙ sym (append-nil (decimal n)); small = omega (arith, fits, lt); whole = tt }, tt)

-- what stands behind a number is so in one way
pub same_rest : (m n : ℕ) (text rest more : List ℕ) → Stands text (a_number m) rest → Stands text (a_number n) more → rest ≡ more
same_rest m n text rest more h k = (one_number_stands 18446744073709551615 m n text rest more (omega arith) h.0 k.0).1

pub no_space_left : (rest more : List ℕ) → rest ≡ [] → rest ≡ 0x20 ∷ more → ⊥
no_space_left rest more e f = let no : [] ≡ 0x20 ∷ more = sym e ∙ f in cc

pub some_left : (rest : List ℕ) → false ≡ (length rest == 0) → rest ≡ [] → ⊥
some_left rest h e = let no : ◌≡◌ {A = Bool} false true = h ∙ ap (λ (r : List ℕ). length r == 0) e in cc

none_is_long : (n : ℕ) → (suc n == 0) ≡ false
none_is_long n = false_from_ne_true (suc n == 0) (λ e. omega (arith, eqb-true (suc n) 0 e))

pub none_left : (rest : List ℕ) → true ≡ (length rest == 0) → rest ≡ []
none_left [] h = refl
none_left (b ∷ rest) h = let no : ◌≡◌ {A = Bool} true false = h ∙ none_is_long (length rest) in cc

-- ---- files

pub no_digit_at_dot : (rest : List ℕ) → BeginsWithNoDigit (0x2E ∷ rest)
no_digit_at_dot rest = λ d. omega (arith, d.0, d.1)

pub number_before_dot : (n : ℕ) (text rest : List ℕ) → n < 2 ^ 32 → text ≡ decimal n ++ 0x2E ∷ rest → IsNumber 18446744073709551615 text n (0x2E ∷ rest)
number_before_dot n text rest small e = record { spelled = e; small = omega (arith, small); whole = no_digit_at_dot rest }

pub behind_dot : (m n : ℕ) (text rest more : List ℕ) → m < 2 ^ 32 → n < 2 ^ 32 → text ≡ decimal m ++ 0x2E ∷ rest → text ≡ decimal n ++ 0x2E ∷ more → rest ≡ more
behind_dot m n text rest more low low' e f =
    tail_of 0x2E 0x2E rest more
    (one_number_stands 18446744073709551615 m n text (0x2E ∷ rest) (0x2E ∷ more) (omega arith) (number_before_dot m text rest low e) (number_before_dot n text more low' f)).1

pub file_dot : (file : FileId) (text rest : List ℕ) → text ≡ file_text file ++ 0x20 ∷ rest → text ≡ decimal file.rec.0 ++ 0x2E ∷ (decimal file.out ++ 0x20 ∷ rest)
file_dot file text rest e = e ∙ append_assoc (decimal file.rec.0) (0x2E ∷ decimal file.out) (0x20 ∷ rest)

-- ---- digests

pub digest_is : (digest : Digest) (text : List ℕ) → IsSum digest → text ≡ encode_lower digest.0 → IsDigest text digest.0 []
digest_is digest text sum e = record { spelled = e ∙ sym (append-nil (encode_lower digest.0)); small = sum.0; size = sum.1 }

pub digest_size : (digest : Digest) (text : List ℕ) → IsSum digest → text ≡ encode_lower digest.0 → length text ≡ 64
digest_size digest text sum e = let two : length (encode_lower digest.0) ≡ 2 * length digest.0 = length-encode_with lower_digits digest.0 in omega (arith, ap length e, two, sum.1)

-- ---- the header

-- the version of a text, and what stands behind it
pub same_version : (text : List ℕ) (v u : Version) (r s : List ℕ) → text ≡ codes "journal " ++ (version_word v ++ r) → text ≡ codes "journal " ++ (version_word u ++ s) → (v ≡ u) × (r ≡ s)
same_version text v u r s e f = one_version v u r s (append_cancel_left (codes "journal ") (version_word v ++ r) (version_word u ++ s) (sym e ∙ f))
