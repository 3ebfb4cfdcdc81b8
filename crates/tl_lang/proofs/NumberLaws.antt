-- A text is read as a number exactly where it is the number's spelling.
use Rattle.std.proofs.Common.{◌≡◌, ◌<◌, ◌^◌, ℕ, suc, ℤ, pos, negsuc, neg_ℤ, Bool, true, false, if◌then◌else◌, bytes_eq, get_or, List, Ok, Err, sym, ap, refl, subst, arith}
use Rattle.std.specs.Fmt.{decimal, signed_decimal}
use Rattle.std.specs.Str.Parse.{signed_digits_value}
use Rattle.std.proofs.lemmas.Bool.{and_parts, and_from, ltb-true, ne_eqb, cond-true}
use Rattle.std.proofs.lemmas.Fmt.{decimal_is_IsNumeral}
use Rattle.std.proofs.lemmas.Slice.Eq.{bytes_eq-Decides}
use Rattle.std.proofs.lemmas.Str.Parse.{digit_at}
use Rattle.tl_lang.specs.Value.{number, bad_number, is_number}
use Rattle.tl_lang.specs.Texts.{spells, num}

value-decimal : (n : ℕ) → n < 2 ^ 64 → signed_digits_value 10 (decimal n) ≡ pos n
value-decimal n small =
    let k = decimal_is_IsNumeral n small in
    let first = digit_at (decimal n) 0 k.0.1 k.0.0 in
    let no_minus = ne_eqb (get_or (decimal n) 0 0) 45 (λ e. omega (arith, first, e)) in
    let no_plus = ne_eqb (get_or (decimal n) 0 0) 43 (λ e. omega (arith, first, e)) in
    rw (no_minus, no_plus) (ap pos k.1)

value-signed_decimal : (n : ℤ) → is_number n ≡ true → signed_digits_value 10 (signed_decimal n) ≡ n
value-signed_decimal (pos n) fits = value-decimal n (omega (arith, ltb-true n (2 ^ 63) fits))
value-signed_decimal (negsuc n) fits =
    let small = ltb-true n (2 ^ 63) fits in
    ap (λ m. neg_ℤ (pos m)) (decimal_is_IsNumeral (suc n) (omega (arith, small))).1

pub num-signed_decimal : (n : ℤ) → is_number n ≡ true → num (signed_decimal n) ≡ Ok (number n)
num-signed_decimal n fits =
    let P : ℤ → Type 0 = λ m. (if spells (signed_decimal n) m then Ok (number m) else Err bad_number) ≡ Ok (number n) in
    let same : bytes_eq (signed_decimal n) (signed_decimal n) ≡ true = (bytes_eq-Decides (signed_decimal n) (signed_decimal n)).1 refl in
    subst P (sym (value-signed_decimal n fits)) (cond-true _ _ _ (and_from (is_number n) _ fits same))

number-if : (t : Bool) (m n : ℤ) → (if t then Ok (number m) else Err bad_number) ≡ Ok (number n) → (t ≡ true) × (m ≡ n)
number-if true m n e = (refl, cc)
number-if false m n e = absurd (cc)

pub num-Ok : (s : List ℕ) (n : ℤ) → num s ≡ Ok (number n) → (is_number n ≡ true) × (s ≡ signed_decimal n)
num-Ok s n e =
    let found = number-if (spells s (signed_digits_value 10 s)) (signed_digits_value 10 s) n e in
    let P : ℤ → Type 0 = λ m. (is_number m ≡ true) × (s ≡ signed_decimal m) in
    let parts = and_parts (is_number (signed_digits_value 10 s)) _ found.0 in
    subst P found.1 (parts.0, (bytes_eq-Decides s _).0 parts.1)
