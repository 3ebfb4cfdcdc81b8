-- Numbers in decimal.
use Rattle.std.specs.Prelude.{◌≡◌, ℕ, ◌≤◌, List, [], ◌∷◌, ◌++◌}
use Rattle.std.specs.Char.{IsAsciiDigit}
use Rattle.std.specs.Fmt.{decimal}

abbrev pub BeginsWithNoDigit : List ℕ → Type 0
BeginsWithNoDigit [] = Unit {0}
BeginsWithNoDigit (byte ∷ bytes) = ¬ IsAsciiDigit byte

-- the text is a number of at most the limit in decimal with no leading zero, all its digits, and then the rest
pub record IsNumber (limit : ℕ) (text : List ℕ) (n : ℕ) (rest : List ℕ) : Type 0 where
  pub spelled : text ≡ decimal n ++ rest
  pub small : n ≤ limit
  pub whole : BeginsWithNoDigit rest
