-- Numbers in decimal, as words.
use Rattle.std.proofs.Common.{◌≡◌, ◌∙◌, ◌==◌, ◌<◌, ◌≤◌, ◌^◌, ◌+◌, ◌%◌, ℕ, false, refl, sym, ap, subst, arith, List, [], ◌∷◌, ◌++◌, length, append-nil, Result, Ok, Err}
use Rattle.std.specs.Fmt.{decimal}
use Rattle.std.proofs.lemmas.Fmt.{decimal_by_steps}
use Rattle.std.proofs.lemmas.Bool.Decides.{nat_tests}
use Rattle.tl_text.specs.Number.{IsNumber}
use Rattle.tl_words.proofs.Walking.{IsPlainText}

-- the word that is a number's spelling, as `tl_text` sees it
pub is_number : (text word : List ℕ) (n : ℕ) → text ≡ word → word ≡ decimal n → n < 2 ^ 64 → IsNumber 18446744073709551615 text n []
is_number text word n same is small = record { spelled = same ∙ is ∙ sym (append-nil (decimal n)); small = omega arith; whole = tt }

BeginsWithDigit : List ℕ → Type 0
BeginsWithDigit ds = (d : ℕ) × (rest : List ℕ) × (ds ≡ d ∷ rest) × (48 ≤ d)

begins : (n : ℕ) → n < 2 ^ 64 → BeginsWithDigit (decimal n)
unfolding BeginsWithDigit
begins n small = decimal_by_steps (λ _ ds. BeginsWithDigit ds) (λ m lt. (48 + m, [], refl, omega arith))
    (λ m ds ge h. (h.0, h.1 ++ (48 + m % 10) ∷ [], ap (λ xs. xs ++ (48 + m % 10) ∷ []) h.2, h.3)) n small

no_hyphen : (d : ℕ) (rest : List ℕ) → 48 ≤ d → IsPlainText (d ∷ rest)
no_hyphen d rest high =
    let ne : (d == 45) ≡ false = grind (arith, nat_tests) in
    record { dash = rw ne refl; long = rw ne refl; short = rw ne refl }

-- a number looks like no option
pub number_is_plain : (n : ℕ) → n < 2 ^ 64 → IsPlainText (decimal n)
unfolding BeginsWithDigit
number_is_plain n small = let b = begins n small in subst IsPlainText (sym b.2) (no_hyphen b.0 b.1 b.3)

abbrev end_of : {E : Type 0} → Result (ℕ × ℕ) E → ℕ
end_of (Ok read) = read.1
end_of (Err e) = 0

-- where the number that is read is the whole word, it ends where the word does
pub ends_there : {E : Type 0} (r : Result (ℕ × ℕ) E) (n number end : ℕ) (word : List ℕ) → r ≡ Ok (n, 0 + length (decimal n)) → r ≡ Ok (number, end) → word ≡ decimal n → end ≡ length word
ends_there r n number end word read is e =
    let last : 0 + length (decimal n) ≡ end = sym (ap end_of read) ∙ ap end_of is in
    let same : length word ≡ length (decimal n) = ap length e in
    omega arith
