-- The forms on texts.
use Rattle.std.specs.Prelude.{ℕ, ℤ, pos, negsuc, Bool, ◌&&◌, ◌||◌, if◌then◌else◌, nat_eq, nat_le, bytes_eq, List, [], ◌∷◌, ◌++◌, length, slice_range, Ok, Err}
use Rattle.std.specs.Fmt.{signed_decimal}
use Rattle.std.specs.List.{starts_with}
use Rattle.std.specs.Str.Parse.{signed_digits_value}
use Rattle.tl_lang.specs.Value.{text, number, Answer, bad_number, out_of_range, is_number, text_within, truth}

abbrev pub cat : List ℕ → List ℕ → Answer
cat s t = text_within (s ++ t)

abbrev pub len : List ℕ → Answer
len s = Ok (number (pos (length s)))

-- the bytes from i to below j
abbrev pub sub : List ℕ → ℤ → ℤ → Answer
sub s (pos i) (pos j) = if nat_le i j && nat_le j (length s) then Ok (text (slice_range s i j)) else Err out_of_range
sub s (pos i) (negsuc j) = Err out_of_range
sub s (negsuc i) j = Err out_of_range

abbrev pub eq : List ℕ → List ℕ → Answer
eq s t = truth (bytes_eq s t)

-- t stands at some place of s
abbrev pub occurs : List ℕ → List ℕ → Bool
occurs t [] = starts_with nat_eq [] t
occurs t (c ∷ s) = starts_with nat_eq (c ∷ s) t || occurs t s

abbrev pub has : List ℕ → List ℕ → Answer
has s t = truth (occurs t s)

-- the text is the spelling of the number that its digits write
abbrev pub spells : List ℕ → ℤ → Bool
spells s n = is_number n && bytes_eq s (signed_decimal n)

abbrev pub num : List ℕ → Answer
num s = let n = signed_digits_value 10 s in if spells s n then Ok (number n) else Err bad_number

abbrev pub str : ℤ → Answer
str n = Ok (text (signed_decimal n))
