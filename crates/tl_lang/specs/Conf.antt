-- Configurations: pairs of a key and a value.
use Rattle.std.specs.Prelude.{ℕ, Bool, true, not, ◌&&◌, nat_le, bytes_eq, List, [], ◌∷◌, length, map}
use Rattle.std.specs.List.{list_all, list_any}
use Rattle.std.specs.Global.{Vec}

-- the bytes of a key and of its value
abbrev pub Pair : Type 0
Pair = List ℕ × List ℕ

abbrev pub pair_of : Vec ℕ × Vec ℕ → Pair
pair_of p = (p.0.items, p.1.items)

abbrev pub pairs_of : List (Vec ℕ × Vec ℕ) → List Pair
pairs_of = map pair_of

-- a key and a value of at most 1,048,576 bytes each
abbrev pub is_short : Pair → Bool
is_short p = nat_le (length p.0) 1048576 && nat_le (length p.1) 1048576

-- no two keys are the same
abbrev pub keys_differ : List Pair → Bool
keys_differ [] = true
keys_differ (p ∷ ps) = not (list_any (λ q. bytes_eq q.0 p.0) ps) && keys_differ ps

-- at most 16 short pairs, no two with the same key
abbrev pub is_conf : List Pair → Bool
is_conf pairs = nat_le (length pairs) 16 && list_all is_short pairs && keys_differ pairs
