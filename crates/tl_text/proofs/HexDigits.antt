-- The sixteen digits.
use Rattle.std.proofs.Common.{◌≡◌, ℕ, zero, suc, ◌+◌, ◌<◌, ◌≤◌, Bool, true, ◌&&◌, cond, eqb, ltb, refl, arith, inl, inr}
use Rattle.std.proofs.lemmas.Bool.{and_parts, cases_lt, eqb-true}
use Rattle.std.proofs.lemmas.Bool.Decides.{nat_tests}
use Rattle.tl_text.specs.HexDigit.{hex_digit}

abbrev code_of : ℕ → ℕ
code_of n = cond (ltb n 10) (48 + n) (87 + n)

abbrev all_agree : ℕ → Bool
all_agree zero = true
all_agree (suc n) = eqb (hex_digit n) (code_of n) && all_agree n

all_agree-at : (n k : ℕ) → all_agree n ≡ true → k < n → eqb (hex_digit k) (code_of k) ≡ true
all_agree-at zero k h lt = absurd (omega arith)
all_agree-at (suc n) k h lt =
    let parts = and_parts (eqb (hex_digit n) (code_of n)) (all_agree n) h in
    elim (cases_lt k n) [
      | inl below ↦ all_agree-at n k parts.1 below
      | inr top ↦ let e : k ≡ n = omega arith in rw e parts.0
    ]

pub hex_digit_is : (n : ℕ) → n < 16 → hex_digit n ≡ code_of n
hex_digit_is n lt = eqb-true (hex_digit n) (code_of n) (all_agree-at 16 n refl lt)

-- a digit below 10 is `0` to `9`, and one from there on `a` to `f`
pub hex_digit_low : (n : ℕ) → n < 10 → hex_digit n ≡ 48 + n
hex_digit_low n lt = let e : hex_digit n ≡ code_of n = hex_digit_is n (omega arith) in grind (arith, nat_tests)

pub hex_digit_high : (n : ℕ) → 10 ≤ n → n < 16 → hex_digit n ≡ 87 + n
hex_digit_high n le lt = let e : hex_digit n ≡ code_of n = hex_digit_is n lt in grind (arith, nat_tests)

pub hex_digit_injective : (m n : ℕ) → m < 16 → n < 16 → hex_digit m ≡ hex_digit n → m ≡ n
hex_digit_injective m n a b e =
    let p : hex_digit m ≡ code_of m = hex_digit_is m a in
    let q : hex_digit n ≡ code_of n = hex_digit_is n b in
    grind (arith, nat_tests)
