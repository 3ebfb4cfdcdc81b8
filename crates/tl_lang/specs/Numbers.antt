-- The forms on numbers.
use Rattle.std.specs.Prelude.{◌-◌, ◌^◌, ℤ, pos, negsuc, ◌+ℤ◌, ◌-ℤ◌, ◌*ℤ◌, int_div, int_rem, int_lt, Bool, ◌&&◌, if◌then◌else◌, Ok, Err}
use Rattle.std.specs.Ordering.{int_eq}
use Rattle.tl_lang.specs.Value.{number, Answer, overflow, zero_divisor, number_within, truth}

abbrev pub add : ℤ → ℤ → Answer
add a b = number_within (a +ℤ b)

abbrev pub minus : ℤ → ℤ → Answer
minus a b = number_within (a -ℤ b)

abbrev pub mul : ℤ → ℤ → Answer
mul a b = number_within (a *ℤ b)

abbrev pub is_zero : ℤ → Bool
is_zero n = int_eq n (pos 0)

-- towards zero
abbrev pub div : ℤ → ℤ → Answer
div a b = if is_zero b then Err zero_divisor else number_within (int_div a b)

-- the least number by -1
abbrev pub overflows : ℤ → ℤ → Bool
overflows a b = int_eq a (negsuc (2 ^ 63 - 1)) && int_eq b (negsuc 0)

-- with the sign of a
abbrev pub mod' : ℤ → ℤ → Answer
mod' a b = if is_zero b then Err zero_divisor else (if overflows a b then Err overflow else Ok (number (int_rem a b)))

abbrev pub lt : ℤ → ℤ → Answer
lt a b = truth (int_lt a b)

abbrev pub same : ℤ → ℤ → Answer
same a b = truth (int_eq a b)
