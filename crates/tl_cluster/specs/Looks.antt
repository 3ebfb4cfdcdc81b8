-- What a look finds, and what a load brings.
use Rattle.std.specs.Prelude.{◌≡◌, ℕ, Bool, true, false, List, ◌∷◌, Option, Some, None, if◌then◌else◌}
use Rattle.tl_types.specs.Block.{FileOutcome}
use Rattle.tl_types.specs.Outcome.{digest_of, outcome_size}
use Rattle.tl_types.specs.Same.{file_same}
use Rattle.tl_types.specs.declared.actor.Actor.{Actor}
use Rattle.tl_types.specs.declared.digest.Digest.{Digest}
use Rattle.tl_types.specs.declared.file_id.FileId.{FileId}
use Rattle.tl_types.specs.declared.worker_id.WorkerId.{WorkerId}
use Rattle.tl_model.specs.declared.event.Act.TheVariants.{Load, Served}
use Rattle.tl_model.specs.declared.event.Event.{Event}
use Rattle.tl_model.specs.declared.saved.Saved.{Saved}
use Rattle.tl_model.specs.Past.{events_with, without_tickets}
use Rattle.tl_model.specs.Residency.{SavedAs, is_available, is_resident, saved_as}
use Rattle.tl_model.specs.Values.{value}
use Rattle.tl_cluster.specs.declared.look.Look.{Look}
use Rattle.tl_cluster.specs.declared.look.Look.TheVariants as looked
use Rattle.tl_cluster.specs.Kept.{IsCopyOf, IsSavedFor}
use Rattle.tl_cluster.specs.State.{State, held, past_of}
use Rattle.tl_cluster.specs.Turned.{Turned, as_held}

-- a saved value of the file: for the size and the digest that it was saved with
abbrev pub IsSavedOf : {T : Type 0} → Bool → (T → List ℕ) → List (Event T) → FileId → Saved T →
    Type 0
IsSavedOf tells content events f saved =
    (known : SavedAs) × (saved_as (without_tickets events) f ≡ Some known)
    × IsSavedFor tells content known (value (events_with content events) f) saved

-- what is kept, if anything is
abbrev pub ShowsKept : {T : Type 0} → (T → List ℕ) → Option (Saved T) → Look T → Type 0
ShowsKept content (Some saved) (looked.Saved copy) = IsCopyOf content saved copy
ShowsKept content None looked.NotYet = Unit {0}
ShowsKept content _ _ = ⊥

-- what the checkpoint store has of a file that is in no memory
abbrev pub InStore : {T : Type 0} → Bool → (T → List ℕ) → List (Event T) → FileId → Look T → Type 0
InStore tells content events f (looked.Have block) = ⊥
InStore tells content events f (looked.Saved saved) = IsSavedOf tells content events f saved
InStore tells content events f looked.NotYet = is_available (without_tickets events) f ≡ false

-- a Served of the block
abbrev pub serving : {T : Type 0} → Actor → FileOutcome → Digest → List (Event T) → List (Event T)
serving actor block digest events =
    record { actor = actor; act = Served block.file digest } ∷ events

-- a look at the file of the actor's read: the block that is held of it, which is served; else what
-- is saved of it; else neither
abbrev pub Looked : {T : Type 0} → Bool → (T → List ℕ) → State T → State T → Actor → FileId →
    Look T → Type 0
Looked tells content old new actor f (looked.Have block) =
    (held f old.workers ≡ Some block) × (block.file ≡ f)
    × ((digest : Digest) × (digest.0 ≡ digest_of block.outcome)
    × Turned actor old (serving actor block digest old.events) (as_held old) new)
Looked tells content old new actor f (looked.Saved saved) =
    (is_resident (past_of old) f ≡ false) × IsSavedOf tells content old.events f saved × (new ≡ old)
Looked tells content old new actor f looked.NotYet =
    (is_available (past_of old) f ≡ false) × (new ≡ old)

-- the file was saved with the block's size and digest
abbrev pub IsSavedBlock : {T : Type 0} → State T → FileOutcome → Type 0
IsSavedBlock state block =
    saved_as (past_of state) block.file
    ≡ Some (record {
      size = outcome_size block.outcome;
      digest = record { 0 = digest_of block.outcome };
    })

-- what is held once a block was brought
abbrev pub with_block : {T : Type 0} → FileOutcome → State T → FileId → Option FileOutcome
with_block block state f = if file_same f block.file then Some block else held f state.workers

-- the events with a Load of the block
abbrev pub loading : {T : Type 0} → Actor → WorkerId → FileOutcome → List (Event T) → List (Event T)
loading actor worker block events =
    record { actor = actor; act = Load worker block.file } ∷ events

-- the answer serves the read, after these events, and of each file this is held
abbrev pub IsServed : {T : Type 0} → State T → State T → Actor → FileOutcome → List (Event T) →
    (FileId → Option FileOutcome) → Type 0
IsServed old new actor answer events blocks =
    (digest : Digest) × (digest.0 ≡ digest_of answer.outcome)
    × Turned actor old (serving actor answer digest events) blocks new

-- A loaded block: where the file is resident, the block that is held of it serves the read; else
-- this block comes to the worker first and serves it.
abbrev pub Loaded : {T : Type 0} → State T → State T → Actor → WorkerId → FileOutcome →
    FileOutcome → Type 0
Loaded old new actor worker block answer =
    (is_resident (past_of old) block.file ≡ true → (held block.file old.workers ≡ Some answer)
    × IsServed old new actor answer old.events (as_held old))
    × (is_resident (past_of old) block.file ≡ false → (answer ≡ block)
    × IsServed old new actor block (loading actor worker block old.events) (with_block block old))
