-- What a file holds, its size and its digest.
use Rattle.std.specs.Prelude.{ℕ, List, [], ◌∷◌, ◌++◌, length, replicate}
use Rattle.sha2.specs.Sha256.{sha256}
use Rattle.tl_types.specs.declared.outcome.Outcome.{Outcome}
use Rattle.tl_types.specs.declared.outcome.Outcome.TheVariants.{Value, Fault}

-- the length of the value, and 0 for a fault
abbrev pub outcome_size : Outcome → ℕ
outcome_size (Value bytes) = length bytes
outcome_size (Fault code) = 0

-- SHA-256 of the value; of a fault 31 zero bytes and then the code
abbrev pub digest_of : Outcome → List ℕ
digest_of (Value bytes) = sha256 bytes
digest_of (Fault code) = replicate 31 0 ++ code ∷ []
