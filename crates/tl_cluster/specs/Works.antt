-- What a claim hands out, and how a job ends.
use Rattle.std.specs.Prelude.{◌≡◌, ℕ, Bool, true, false, List, [], ◌∷◌, length, map, Option, Some, None, option_map}
use Rattle.std.specs.List.{AllByRecursion, find}
use Rattle.tl_types.specs.Block.{FileOutcome}
use Rattle.tl_types.specs.Same.{file_same}
use Rattle.tl_types.specs.declared.actor.Actor.{Actor}
use Rattle.tl_types.specs.declared.file_id.FileId.{FileId}
use Rattle.tl_types.specs.declared.record_id.RecordId.{RecordId}
use Rattle.tl_types.specs.declared.worker_id.WorkerId.{WorkerId}
use Rattle.tl_model.specs.declared.event.Act.TheVariants.{Claim, Done}
use Rattle.tl_model.specs.declared.record.Record.TheVariants as kind
use Rattle.tl_model.specs.Actors.{open_claim}
use Rattle.tl_model.specs.History.{record_at, outputs_of}
use Rattle.tl_model.specs.Plan.{next}
use Rattle.tl_model.specs.Residency.{is_resident}
use Rattle.tl_model.specs.Rules.{or_first}
use Rattle.tl_model.specs.Values.{value}
use Rattle.tl_cluster.specs.declared.work.Feed.{Feed}
use Rattle.tl_cluster.specs.declared.work.Feed.TheVariants.{Have, Kept}
use Rattle.tl_cluster.specs.declared.work.Work.{Work}
use Rattle.tl_cluster.specs.declared.work.Finish.{Finish}
use Rattle.tl_cluster.specs.declared.work.Finish.TheVariants as finish
use Rattle.tl_cluster.specs.Looks.{IsSavedOf}
use Rattle.tl_cluster.specs.Losses.{incarnation}
use Rattle.tl_cluster.specs.State.{State, held, past_of, told_of}
use Rattle.tl_cluster.specs.Turned.{Turned, as_held}

-- ---- a claim

-- the block that is held of an input, or else what is saved of it
abbrev pub IsFed : {T : Type 0} → Bool → (T → List ℕ) → State T → FileId → Feed T → Type 0
IsFed tells content state f (Have block) = held f state.workers ≡ Some block
IsFed tells content state f (Kept g saved) =
    (g ≡ f) × (is_resident (past_of state) f ≡ false) × IsSavedOf tells content state.events f saved

-- one for each file, in order
abbrev pub AreFed : {T : Type 0} → Bool → (T → List ℕ) → State T → List FileId → List (Feed T) →
    Type 0
AreFed tells content state [] [] = Unit {0}
AreFed tells content state (f ∷ fs) (feed ∷ feeds) =
    IsFed tells content state f feed × AreFed tells content state fs feeds
AreFed tells content state _ _ = ⊥

-- the work is the record's job: its program keeps the kind rules for the record's numbers of inputs
-- and outputs, and there is one feed for each input
abbrev pub IsJobOf : {T : Type 0} → Bool → (T → List ℕ) → State T → Work T → Type 0
IsJobOf tells content state work =
    (prio : ℕ) × (inputs : List FileId) × (outputs : ℕ)
    × (record_at (past_of state) work.rec ≡ Some (kind.Job work.rec work.core prio inputs outputs))
    × (work.core.program.inputs ≡ length inputs)
    × (work.core.program.outputs ≡ outputs)
    × AreFed tells content state inputs work.inputs.items

-- a claim takes up the record that is next, if one is
abbrev pub Claimed : {T : Type 0} → Bool → (T → List ℕ) → State T → State T → Actor → WorkerId →
    Option (Work T) → Type 0
Claimed tells content old new actor worker None =
    (next old.header.order (past_of old) ≡ None) × (new ≡ old)
Claimed tells content old new actor worker (Some work) =
    (next old.header.order (past_of old) ≡ Some work.rec)
    × Turned actor old (record { actor = actor; act = Claim worker work.rec } ∷ old.events)
    (as_held old) new
    × (work.actor ≡ actor)
    × (work.worker ≡ worker)
    × (work.incarnation ≡ incarnation old.events worker)
    × (work.place ≡ length old.events)
    × IsJobOf tells content old work

-- ---- its end

abbrev pub Blocks : Type 0
Blocks = List FileOutcome

abbrev pub file_of : FileOutcome → FileId
file_of block = block.file

-- the first block of a file
abbrev pub first_block : FileId → Blocks → Option FileOutcome
first_block f blocks = find (λ block. file_same f block.file) blocks

-- where the worker was not lost since, the claim is still open
abbrev pub IsUnlessLost : {T : Type 0} → State T → Work T → Type 0
IsUnlessLost state work =
    incarnation state.events work.worker ≡ work.incarnation
    → open_claim (past_of state) work.actor ≡ Some
    (record { worker = work.worker; made = work.rec })

-- one block for each output of the record, in order
abbrev pub AreOutputs : {T : Type 0} → State T → RecordId → Blocks → Type 0
AreOutputs state made blocks =
    option_map outputs_of (record_at (past_of state) made) ≡ Some (map file_of blocks)

-- each block is what its file holds, where the bytes are told
abbrev pub AreValues : {T : Type 0} → Bool → (T → List ℕ) → State T → Blocks → Type 0
AreValues tells content state blocks =
    AllByRecursion
    (λ block. tells ≡ true → block.outcome ≡ value (told_of content state) block.file) blocks

-- what is held once blocks were brought, but of files that were resident
abbrev pub with_blocks : {T : Type 0} → Blocks → State T → FileId → Option FileOutcome
with_blocks blocks state f = or_first (held f state.workers) (first_block f blocks)

-- a done job: its blocks are held but of files that were resident, and every other block as before;
-- or nothing, where the worker was lost since the claim
abbrev pub Finished : {T : Type 0} → State T → State T → Work T → Blocks → Finish → Type 0
Finished old new work blocks finish.Installed =
    (incarnation old.events work.worker ≡ work.incarnation)
    × Turned work.actor old
    (record { actor = work.actor; act = Done work.worker work.rec } ∷ old.events)
    (with_blocks blocks old) new
Finished old new work blocks (finish.Void at_claim now) =
    (at_claim ≡ work.incarnation) × (now ≡ incarnation old.events work.worker)
    × (incarnation old.events work.worker ≡ work.incarnation → ⊥) × (new ≡ old)
