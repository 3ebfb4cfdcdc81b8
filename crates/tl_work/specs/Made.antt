-- What a job makes.
use Rattle.std.specs.Prelude.{◌≡◌, ◌+◌, ℕ, Bool, true, List, [], ◌∷◌, length, map}
use Rattle.tl_types.specs.Block.{FileOutcome}
use Rattle.tl_types.specs.declared.outcome.Outcome.{Outcome}
use Rattle.tl_types.specs.declared.record_id.RecordId.{RecordId}
use Rattle.tl_lang.specs.Job.{job_mean}
use Rattle.tl_cluster.specs.declared.work.Work.{Work}
use Rattle.tl_work.specs.Loads.{fed_outcome}

-- the blocks of a record's outputs from number k on
abbrev pub blocks_from : RecordId → ℕ → List Outcome → List FileOutcome
blocks_from made k [] = []
blocks_from made k (outcome ∷ outcomes) =
    record { file = record { rec = made; out = k }; outcome = outcome }
    ∷ blocks_from made (k + 1) outcomes

-- The blocks hold what the job means of what was got of its inputs, which is what they hold where
-- their tickets tell.
pub record IsMade {T : Type 0} (tells : Bool) (content : T → List ℕ) (work : Work T)
    (blocks : List FileOutcome) : Type 0 where
  pub got : List Outcome
  pub each : length got ≡ length work.inputs.items
  pub told : tells ≡ true → got ≡ map (fed_outcome content) work.inputs.items
  pub means : blocks ≡ blocks_from work.rec 0 (job_mean work.core got)
