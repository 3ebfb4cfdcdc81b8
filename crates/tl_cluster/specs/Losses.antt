-- Workers' incarnations: how often each was lost.
use Rattle.std.specs.Prelude.{ℕ, ◌+◌, Bool, false, List, [], ◌∷◌, Option, None, if◌then◌else◌}
use Rattle.tl_types.specs.Block.{FileOutcome}
use Rattle.tl_types.specs.Same.{worker_same}
use Rattle.tl_types.specs.declared.file_id.FileId.{FileId}
use Rattle.tl_types.specs.declared.worker_id.WorkerId.{WorkerId}
use Rattle.tl_model.specs.declared.event.Act.{Act}
use Rattle.tl_model.specs.declared.event.Act.TheVariants.{Lose}
use Rattle.tl_model.specs.declared.event.Event.{Event}
use Rattle.tl_model.specs.Residency.{is_resident_on}
use Rattle.tl_cluster.specs.State.{State, held, past_of}

abbrev pub loses : {T : Type 0} → WorkerId → Act T → Bool
loses worker (Lose other) = worker_same worker other
loses worker _ = false

-- a worker's incarnation is the number of its losses
abbrev pub incarnation : {T : Type 0} → List (Event T) → WorkerId → ℕ
incarnation [] worker = 0
incarnation (e ∷ events) worker =
    if loses worker e.act then incarnation events worker + 1 else incarnation events worker

-- what is held once a worker was lost
abbrev pub without_worker : {T : Type 0} → WorkerId → State T → FileId → Option FileOutcome
without_worker worker state f =
    if is_resident_on (past_of state) f worker then None else held f state.workers
