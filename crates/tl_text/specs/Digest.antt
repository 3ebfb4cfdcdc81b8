-- Digests as text.
use Rattle.std.specs.Prelude.{◌≡◌, ℕ, ◌<◌, List, ◌++◌, length}
use Rattle.std.specs.List.{All}
use Rattle.hex.specs.Hex.{encode_lower}

-- the text is 64 hexadecimal digits in lower case, two for each of the bytes, and then the rest
pub record IsDigest (text bytes rest : List ℕ) : Type 0 where
  pub spelled : text ≡ encode_lower bytes ++ rest
  pub small : All (λ byte. byte < 256) bytes
  pub size : length bytes ≡ 32
