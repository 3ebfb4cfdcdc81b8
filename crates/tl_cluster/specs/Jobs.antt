-- What each main event of a job makes of the parts.
use Rattle.std.specs.Prelude.{◌≡◌, ℕ, Bool, not, List}
use Rattle.std.specs.List.{filter}
use Rattle.tl_types.specs.Block.{FileOutcome}
use Rattle.tl_types.specs.declared.actor.Actor.{Actor}
use Rattle.tl_types.specs.declared.file_id.FileId.{FileId}
use Rattle.tl_types.specs.declared.record_id.RecordId.{RecordId}
use Rattle.tl_types.specs.declared.worker_id.WorkerId.{WorkerId}
use Rattle.tl_model.specs.declared.event.Act.TheVariants.{Back, Claim, Done}
use Rattle.tl_model.specs.Past.{Past}
use Rattle.tl_model.specs.Residency.{reads_of_claim}
use Rattle.tl_fleet.specs.Events.{among, installed_each, touched_each}
use Rattle.tl_fleet.specs.Order.{Ascends}
use Rattle.tl_fleet.specs.Workers.{Workers, is_resident}
use Rattle.tl_cluster.specs.Main.{with_event}
use Rattle.tl_cluster.specs.Stands.{PartsState}
use Rattle.tl_cluster.specs.State.{State}

-- a job was taken up, and these files were used
abbrev pub with_claimed : {T : Type 0} →
    Actor → WorkerId → RecordId → List FileId → PartsState T → PartsState T
with_claimed actor worker made inputs parts = record (with_event actor (Claim worker made) parts) {
  workers = touched_each inputs parts.workers;
}

-- a job was done, and these blocks came to the worker
abbrev pub with_done : {T : Type 0} →
    Actor → WorkerId → RecordId → List FileOutcome → PartsState T → PartsState T
with_done actor worker made blocks parts = record (with_event actor (Done worker made) parts) {
  workers = installed_each worker blocks parts.workers;
}

-- a job was given back
abbrev pub with_back : {T : Type 0} → Actor → RecordId → PartsState T → PartsState T
with_back actor made parts = with_event actor (Back made) parts

-- the parts without what only they know
abbrev pub state_of : {T : Type 0} → PartsState T → State T
state_of parts = record { header = parts.header; events = parts.events; workers = parts.workers }

-- a job was taken up, once there was room for it
pub record IsClaimed {T : Type 0} (actor : Actor) (worker : WorkerId) (made : RecordId)
    (inputs : List FileId) (old new : PartsState T) : Type 0 where
  pub spare : ℕ
  pub is : new ≡ with_claimed actor worker made inputs (record old { spare = spare })

-- the files are the record's inputs, each once, in ascending order
abbrev pub AreInputs : Past → RecordId → List FileId → Type 0
AreInputs past made files =
    Ascends files × ((f : FileId) → among f files ≡ reads_of_claim past f made)

-- whether a block is of a file that is in no memory
abbrev pub is_missing : Workers → FileOutcome → Bool
is_missing workers block = not (is_resident block.file workers)

-- those of the blocks whose files are in no memory
abbrev pub missing_of : Workers → List FileOutcome → List FileOutcome
missing_of workers blocks = filter (is_missing workers) blocks

-- a job was done, once there was room, and those of these blocks came whose files are in no memory
pub record IsDone {T : Type 0} (actor : Actor) (worker : WorkerId) (made : RecordId)
    (blocks : List FileOutcome) (old new : PartsState T) : Type 0 where
  pub spare : ℕ
  pub is : new ≡ with_done actor worker made (missing_of old.workers blocks)
      (record old { spare = spare })
