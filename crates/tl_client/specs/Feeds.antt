-- What a job is fed, and what it makes.
use Rattle.std.specs.Prelude.{◌≡◌, ◌≤◌, ◌+◌, ℕ, List, [], ◌∷◌, length}
use Rattle.sha2.specs.Sha256.{sha256}
use Rattle.tl_types.specs.Block.{FileOutcome}
use Rattle.tl_types.specs.declared.record_id.RecordId.{RecordId}
use Rattle.tl_types.specs.declared.outcome.Outcome.{Outcome}
use Rattle.tl_types.specs.declared.outcome.Outcome.TheVariants.{Value, Fault}
use Rattle.tl_model.specs.declared.saved.Saved.{Saved}
use Rattle.tl_model.specs.declared.saved.Saved.TheVariants.{Held, Failed}
use Rattle.tl_core.specs.declared.work.Feed.{Feed}
use Rattle.tl_core.specs.declared.work.Feed.TheVariants.{Have, Kept}

-- the length and the digest are those of the ticket's bytes, which are no more than a file may have
abbrev pub IsWhole : Saved (List ℕ) → Type 0
IsWhole (Held bytes len digest) = (len ≤ 1048576) × (length bytes ≡ len) × (sha256 bytes ≡ digest.0)
IsWhole (Failed code) = Unit {0}

abbrev pub saved_outcome : Saved (List ℕ) → Outcome
saved_outcome (Held bytes len digest) = Value bytes
saved_outcome (Failed code) = Fault code

abbrev pub IsWholeFeed : Feed (List ℕ) → Type 0
IsWholeFeed (Have block) = Unit {0}
IsWholeFeed (Kept f saved) = IsWhole saved

abbrev pub fed_outcome : Feed (List ℕ) → Outcome
fed_outcome (Have block) = block.outcome
fed_outcome (Kept f saved) = saved_outcome saved

-- the blocks of a record's outputs from number k on
abbrev pub blocks_from : RecordId → ℕ → List Outcome → List FileOutcome
blocks_from made k [] = []
blocks_from made k (outcome ∷ outcomes) = record { file = record { rec = made; out = k }; outcome = outcome } ∷ blocks_from made (k + 1) outcomes
