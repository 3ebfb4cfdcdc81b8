-- Vectors in a vector, as lists in a list.
use Rattle.std.specs.Prelude.{ℕ, List, map}
use Rattle.std.specs.Global.{Vec}

-- the bytes of each part
abbrev pub lists_of : List (Vec ℕ) → List (List ℕ)
lists_of parts = map (λ part. part.items) parts
