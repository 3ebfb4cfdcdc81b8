-- The values of the job language, and their limits.
use Rattle.std.specs.Prelude.{ℕ, ◌^◌, ℤ, pos, negsuc, Bool, ◌&&◌, if◌then◌else◌, nat_lt, nat_le, List, length, sum_by, Result, Ok, Err}

pub data Value : Type 0 where
  text : List ℕ → Value
  number : ℤ → Value
  list : List (List ℕ) → Value

-- a value, or the number of a fault
abbrev pub Answer : Type 0
Answer = Result Value ℕ

-- the numbers of the faults
abbrev pub no_fuel : ℕ
no_fuel = 1

abbrev pub too_long : ℕ
too_long = 2

abbrev pub overflow : ℕ
overflow = 3

abbrev pub zero_divisor : ℕ
zero_divisor = 4

abbrev pub bad_number : ℕ
bad_number = 5

abbrev pub out_of_range : ℕ
out_of_range = 6

abbrev pub no_key : ℕ
no_key = 7

abbrev pub input_fault : ℕ
input_fault = 8

-- what a name that is not visible or a value of another kind gives; a checked program never meets it
abbrev pub no_meaning : ℕ
no_meaning = 0

abbrev pub stuck : Answer
stuck = Err no_meaning

-- a text has at most 1,048,576 bytes
abbrev pub is_text : List ℕ → Bool
is_text bytes = nat_le (length bytes) 1048576

-- a number lies in the 64-bit signed range
abbrev pub is_number : ℤ → Bool
is_number (pos n) = nat_lt n (2 ^ 63)
is_number (negsuc n) = nat_lt n (2 ^ 63)

-- a list has at most 65,536 texts, which have at most 1,048,576 bytes together
abbrev pub is_list : List (List ℕ) → Bool
is_list texts = nat_le (length texts) 65536 && nat_le (sum_by length texts) 1048576

abbrev pub text_within : List ℕ → Answer
text_within bytes = if is_text bytes then Ok (text bytes) else Err too_long

abbrev pub number_within : ℤ → Answer
number_within n = if is_number n then Ok (number n) else Err overflow

abbrev pub list_within : List (List ℕ) → Answer
list_within texts = if is_list texts then Ok (list texts) else Err too_long

-- 1 where the test holds, else 0
abbrev pub truth : Bool → Answer
truth holds = Ok (number (if holds then pos 1 else pos 0))

-- ---- the kinds of a form's parts

abbrev pub on_text : (List ℕ → Answer) → Value → Answer
on_text f (text s) = f s
on_text f (number n) = stuck
on_text f (list ts) = stuck

abbrev pub on_number : (ℤ → Answer) → Value → Answer
on_number f (text s) = stuck
on_number f (number n) = f n
on_number f (list ts) = stuck

abbrev pub on_list : (List (List ℕ) → Answer) → Value → Answer
on_list f (text s) = stuck
on_list f (number n) = stuck
on_list f (list ts) = f ts

abbrev pub on_texts : (List ℕ → List ℕ → Answer) → Value → Value → Answer
on_texts f v w = on_text (λ s. on_text (f s) w) v

abbrev pub on_numbers : (ℤ → ℤ → Answer) → Value → Value → Answer
on_numbers f v w = on_number (λ a. on_number (f a) w) v

abbrev pub on_list_text : (List (List ℕ) → List ℕ → Answer) → Value → Value → Answer
on_list_text f v w = on_list (λ ts. on_text (f ts) w) v
