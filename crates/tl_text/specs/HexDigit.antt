-- Hexadecimal digits in lower case.
use Rattle.std.specs.Prelude.{◌≡◌, ℕ, ◌<◌, slice_index}
use Rattle.hex.specs.Hex.{lower_digits}

-- the digit 0 to 9 or a to f of a number below 16
abbrev pub hex_digit : ℕ → ℕ
hex_digit n = slice_index lower_digits n

abbrev pub IsHexDigit : ℕ → Type 0
IsHexDigit byte = (n : ℕ) × (n < 16) × (hex_digit n ≡ byte)
