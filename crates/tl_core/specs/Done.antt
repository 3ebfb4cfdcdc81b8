-- What a done job brings into its worker's memory.
use Rattle.std.specs.Prelude.{◌≡◌, ℕ, Bool, true, List, ◌∷◌, map, Option, Some, None, option_map}
use Rattle.std.specs.List.{find, AllByRecursion}
use Rattle.tl_types.specs.Block.{FileOutcome}
use Rattle.tl_types.specs.Same.{file_same}
use Rattle.tl_types.specs.declared.file_id.FileId.{FileId}
use Rattle.tl_types.specs.declared.record_id.RecordId.{RecordId}
use Rattle.tl_model.specs.declared.event.Act.TheVariants.{Done}
use Rattle.tl_model.specs.Past.{events_with}
use Rattle.tl_model.specs.Values.{value}
use Rattle.tl_model.specs.Actors.{open_claim}
use Rattle.tl_model.specs.History.{record_at, outputs_of}
use Rattle.tl_core.specs.declared.work.Work.{Work}
use Rattle.tl_core.specs.declared.work.Finish.{Finish}
use Rattle.tl_core.specs.declared.work.Finish.TheVariants as finish
use Rattle.tl_core.specs.Residents.{held}
use Rattle.tl_core.specs.State.{State}
use Rattle.tl_core.specs.Answers.{past_of}
use Rattle.tl_core.specs.Claims.{incarnation}

abbrev pub Blocks : Type 0
Blocks = List FileOutcome

abbrev pub file_of : FileOutcome → FileId
file_of block = block.file

-- the first block of a file
abbrev pub first_block : FileId → Blocks → Option FileOutcome
first_block f blocks = find (λ block. file_same f block.file) blocks

abbrev pub or_else : {A : Type 0} → Option A → Option A → Option A
or_else (Some a) later = Some a
or_else None later = later

-- where the worker was not lost since, the claim is still open
abbrev pub IsUnlessLost : {T : Type 0} → State T → Work T → Type 0
IsUnlessLost state work =
    incarnation state.events work.worker ≡ work.incarnation
    → open_claim (past_of state) work.actor ≡ Some (record { worker = work.worker; made = work.rec })

-- one block for each output of the record, in order
abbrev pub AreOutputs : {T : Type 0} → State T → RecordId → Blocks → Type 0
AreOutputs state made blocks = option_map outputs_of (record_at (past_of state) made) ≡ Some (map file_of blocks)

-- each block is what its file holds, where the bytes are told
abbrev pub AreValues : {T : Type 0} → Bool → (T → List ℕ) → State T → Blocks → Type 0
AreValues tells content state blocks =
    AllByRecursion (λ block. tells ≡ true → block.outcome ≡ value (events_with content state.events) block.file) blocks

-- a done job: its blocks are held but of files that were resident, and every other block as before; or nothing, where the
-- worker was lost since the claim
abbrev pub Finished : {T : Type 0} → State T → State T → Work T → Blocks → Finish → Type 0
Finished old new work blocks finish.Installed =
    (incarnation old.events work.worker ≡ work.incarnation)
    × (new.header ≡ old.header)
    × (new.events ≡ record { actor = work.actor; act = Done work.worker work.rec } ∷ old.events)
    × ((f : FileId) → held f new.residents ≡ or_else (held f old.residents) (first_block f blocks))
Finished old new work blocks (finish.Void at_claim now) =
    (at_claim ≡ work.incarnation) × (now ≡ incarnation old.events work.worker) × (incarnation old.events work.worker ≡ work.incarnation → ⊥) × (new ≡ old)
