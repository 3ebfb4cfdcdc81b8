-- Texts between quote marks.
use Rattle.std.specs.Prelude.{◌≡◌, ◌≢◌, ◌⊎◌, ℕ, ◌/◌, ◌%◌, ◌<◌, ◌==◌, ◌&&◌, nat_le, if◌then◌else◌, List, [], ◌∷◌, ◌++◌}
use Rattle.std.specs.List.{All, flat_map}
use Rattle.tl_text.specs.HexDigit.{hex_digit}

-- `\"`, `\\`, `\n` and `\t` stand for quote mark, backslash, line feed and tab, and `\x` and two digits for
-- each other byte below 0x20 or above 0x7E; what is left stands for itself
abbrev pub item : ℕ → List ℕ
item byte =
    if byte == 0x22 then 0x5C ∷ 0x22 ∷ []
    else if byte == 0x5C then 0x5C ∷ 0x5C ∷ []
    else if byte == 0x0A then 0x5C ∷ 0x6E ∷ []
    else if byte == 0x09 then 0x5C ∷ 0x74 ∷ []
    else if nat_le 0x20 byte && nat_le byte 0x7E then byte ∷ []
    else 0x5C ∷ 0x78 ∷ hex_digit (byte / 16) ∷ hex_digit (byte % 16) ∷ []

-- the item of the byte is `\x` and two digits
abbrev pub HasHexItem : ℕ → Type 0
HasHexItem byte = ((byte < 0x20) ⊎ (0x7E < byte)) × (byte ≢ 0x09) × (byte ≢ 0x0A)

-- the items of the bytes between quote marks
abbrev pub quoted : List ℕ → List ℕ
quoted bytes = 0x22 ∷ flat_map item bytes ++ 0x22 ∷ []

-- the text is one item, and then the rest
pub record IsItem (text : List ℕ) (byte : ℕ) (rest : List ℕ) : Type 0 where
  pub spelled : text ≡ item byte ++ rest
  pub small : byte < 256

-- an item begins with these bytes
abbrev pub BeginsItem : List ℕ → Type 0
BeginsItem bytes = (byte : ℕ) × (more : List ℕ) × (byte < 256) × (item byte ≡ bytes ++ more)

-- the text is the quoted bytes, and then the rest
pub record IsQuoted (text bytes rest : List ℕ) : Type 0 where
  pub spelled : text ≡ quoted bytes ++ rest
  pub small : All (λ byte. byte < 256) bytes
