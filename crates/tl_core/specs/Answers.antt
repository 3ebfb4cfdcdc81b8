-- What each turn of a cluster answers, and what it leaves.
use Rattle.std.specs.Prelude.{◌≡◌, ◌≤◌, ℕ, Bool, true, false, List, [], ◌∷◌, ◌++◌, length, Option, Some, None}
use Rattle.sha2.specs.Sha256.{sha256}
use Rattle.tl_types.specs.Block.{FileOutcome}
use Rattle.tl_types.specs.Outcome.{digest_of, outcome_size}
use Rattle.tl_types.specs.declared.actor.Actor.{Actor}
use Rattle.tl_types.specs.declared.digest.Digest.{Digest}
use Rattle.tl_types.specs.declared.file_id.FileId.{FileId}
use Rattle.tl_types.specs.declared.worker_id.WorkerId.{WorkerId}
use Rattle.tl_types.specs.declared.outcome.Outcome.{Outcome}
use Rattle.tl_types.specs.declared.outcome.Outcome.TheVariants.{Value, Fault}
use Rattle.tl_model.specs.declared.event.Act.{Act}
use Rattle.tl_model.specs.declared.event.Act.TheVariants.{Served, Load}
use Rattle.tl_model.specs.declared.saved.Saved.{Saved}
use Rattle.tl_model.specs.declared.saved.Saved.TheVariants as save
use Rattle.tl_model.specs.Past.{Past, events_with, without_tickets}
use Rattle.tl_model.specs.Values.{value}
use Rattle.tl_model.specs.Residency.{SavedAs, is_resident, is_available, saved_as}
use Rattle.tl_core.specs.declared.look.Look.{Look}
use Rattle.tl_core.specs.declared.look.Look.TheVariants as looked
use Rattle.tl_core.specs.Residents.{held}
use Rattle.tl_core.specs.Puts.{KeptPut, IsCopy}
use Rattle.tl_core.specs.State.{State}

abbrev pub past_of : {T : Type 0} → State T → Past
past_of state = without_tickets state.events

-- one event more, and nothing else
abbrev pub with_event : {T : Type 0} → Actor → Act T → State T → State T
with_event actor act state = record state { events = record { actor = actor; act = act } ∷ state.events }

-- one block more on a worker
abbrev pub with_resident : {T : Type 0} → WorkerId → FileOutcome → State T → State T
with_resident worker block state = record state { residents = state.residents ++ record { worker = worker; block = block } ∷ [] }

-- A saved value was saved with this size and this digest, and is no longer than a file may be. Where it tells, it is for this
-- outcome, and its bytes have this size and this digest.
abbrev pub IsSavedFor : {T : Type 0} → Bool → (T → List ℕ) → SavedAs → Outcome → Saved T → Type 0
IsSavedFor tells content known outcome (save.Held ticket len digest) =
    (known ≡ record { size = len; digest = digest }) × (len ≤ 1048576)
    × (tells ≡ true → (outcome ≡ Value (content ticket)) × (length (content ticket) ≡ len) × (sha256 (content ticket) ≡ digest.0))
IsSavedFor tells content known outcome (save.Failed code) =
    (known ≡ record { size = 0; digest = record { 0 = digest_of (Fault code) } }) × (tells ≡ true → outcome ≡ Fault code)

-- a saved value of the file
abbrev pub IsSavedOf : {T : Type 0} → Bool → (T → List ℕ) → State T → FileId → Saved T → Type 0
IsSavedOf tells content state f saved =
    (known : SavedAs) × (saved_as (past_of state) f ≡ Some known) × IsSavedFor tells content known (value (events_with content state.events) f) saved

-- the actor's read is served by the block
abbrev pub IsServed : {T : Type 0} → State T → State T → Actor → FileOutcome → Type 0
IsServed old new actor block =
    (digest : Digest) × (digest.0 ≡ digest_of block.outcome) × (new ≡ with_event actor (Served block.file digest) old)

-- a look at the file of the actor's read: the block that is held of it, which is served; else what is saved of it; else neither
abbrev pub Looked : {T : Type 0} → Bool → (T → List ℕ) → State T → State T → Actor → FileId → Look T → Type 0
Looked tells content old new actor f (looked.Have block) =
    (is_resident (past_of old) f ≡ true) × (held f old.residents ≡ Some block) × (block.file ≡ f) × IsServed old new actor block
Looked tells content old new actor f (looked.Saved saved) =
    (is_resident (past_of old) f ≡ false) × IsSavedOf tells content old f saved × (new ≡ old)
Looked tells content old new actor f looked.NotYet = (is_available (past_of old) f ≡ false) × (new ≡ old)

-- the file was saved with the block's size and digest
abbrev pub IsSavedBlock : {T : Type 0} → State T → FileOutcome → Type 0
IsSavedBlock state block =
    saved_as (past_of state) block.file ≡ Some (record { size = outcome_size block.outcome; digest = record { 0 = digest_of block.outcome } })

-- A loaded block: where the file is resident, the block that is held of it serves the read; else this block comes to the
-- worker first, and every other block is as before.
abbrev pub Loaded : {T : Type 0} → State T → State T → Actor → WorkerId → FileOutcome → FileOutcome → Type 0
Loaded old new actor worker block answer =
    (is_resident (past_of old) block.file ≡ true → (held block.file old.residents ≡ Some answer) × IsServed old new actor answer)
    × (is_resident (past_of old) block.file ≡ false → (answer ≡ block) × IsServed (with_resident worker block (with_event actor (Load worker block.file) old)) new actor block)

-- what the checkpoint store has of a file: the put that made it, if one did
abbrev pub FoundInStore : {T : Type 0} → (T → List ℕ) → Option (KeptPut T) → Look T → Type 0
FoundInStore content (Some put) (looked.Saved saved) = IsCopy content put saved
FoundInStore content None looked.NotYet = Unit {0}
FoundInStore content _ _ = ⊥
