-- Signed numbers in decimal.
use Rattle.std.specs.Prelude.{◌≡◌, ℕ, List, ◌++◌, ℤ, FitsSigned}
use Rattle.std.specs.Fmt.{signed_decimal}
use Rattle.std.specs.Int.{w64}
use Rattle.tl_text.specs.Number.{BeginsWithNoDigit}

-- the text is a signed 64-bit number in decimal, `-` before it where it is below 0, all its digits, and then the rest
pub record IsSigned (text : List ℕ) (z : ℤ) (rest : List ℕ) : Type 0 where
  pub spelled : text ≡ signed_decimal z ++ rest
  pub fits : FitsSigned w64 z
  pub whole : BeginsWithNoDigit rest
