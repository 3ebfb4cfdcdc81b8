-- What each main event makes of the parts.
use Rattle.std.specs.Prelude.{◌≡◌, ◌-◌, ℕ, ◌∷◌}
use Rattle.tl_types.specs.Block.{FileOutcome}
use Rattle.tl_types.specs.Outcome.{digest_of}
use Rattle.tl_types.specs.declared.actor.Actor.{Actor}
use Rattle.tl_types.specs.declared.digest.Digest.{Digest}
use Rattle.tl_types.specs.declared.file_id.FileId.{FileId}
use Rattle.tl_types.specs.declared.record_id.RecordId.{RecordId}
use Rattle.tl_types.specs.declared.worker_id.WorkerId.{WorkerId}
use Rattle.tl_model.specs.declared.event.Act.{Act}
use Rattle.tl_model.specs.declared.event.Act.TheVariants.{Collect, Load, Lose, Save, Saved, Served, Shut, Unsave}
use Rattle.tl_fleet.specs.Workers.{all_touched, installed, lost}
use Rattle.tl_vault.specs.Vault.{Places}
use Rattle.tl_cluster.specs.Saves.{saved_block}
use Rattle.tl_cluster.specs.Stands.{PartsState}

-- one event more
abbrev pub with_event : {T : Type 0} → Actor → Act T → PartsState T → PartsState T
with_event actor act parts = record parts {
  events = record { actor = actor; act = act } ∷ parts.events;
  spare = parts.spare - 1;
}

-- a read was served
abbrev pub with_served : {T : Type 0} → Actor → FileId → Digest → PartsState T → PartsState T
with_served actor f digest parts = record (with_event actor (Served f digest) parts) {
  workers = all_touched f parts.workers;
}

-- a read was given up
abbrev pub with_shut : {T : Type 0} → Actor → FileId → PartsState T → PartsState T
with_shut actor f parts = with_event actor (Shut f) parts

-- a worker was lost
abbrev pub with_lost : {T : Type 0} → Actor → WorkerId → PartsState T → PartsState T
with_lost actor worker parts = record (with_event actor (Lose worker) parts) {
  workers = lost worker parts.workers;
}

-- a block was loaded on a worker
abbrev pub with_loaded : {T : Type 0} → Actor → WorkerId → FileOutcome → PartsState T → PartsState T
with_loaded actor worker block parts = record (with_event actor (Load worker block.file) parts) {
  workers = installed worker block parts.workers;
}

-- a block was loaded on a worker, and served the read for which it was loaded
pub record IsLoaded {T : Type 0} (actor : Actor) (worker : WorkerId) (block : FileOutcome)
    (old new : PartsState T) : Type 0 where
  pub digest : Digest
  pub of_block : digest.0 ≡ digest_of block.outcome
  pub spare : ℕ
  pub is : new ≡ with_served actor block.file digest
      (with_loaded actor worker block (record old { spare = spare }))

-- a file is being saved
abbrev pub with_begun : {T : Type 0} → Actor → FileId → PartsState T → PartsState T
with_begun actor f parts = with_event actor (Save f) parts

-- a save was given up
abbrev pub with_unsaved : {T : Type 0} → Actor → FileId → PartsState T → PartsState T
with_unsaved actor f parts = with_event actor (Unsave f) parts

-- the file of a block was saved, and is kept in the checkpoint store
abbrev pub with_saved : {T : Type 0} → Actor → FileOutcome → Places T → PartsState T → PartsState T
with_saved actor block vault parts =
    let known = saved_block block in
    record (with_event actor (Saved block.file known.size known.digest) parts) {
      vault = vault;
    }

-- a record was let go
abbrev pub with_let_go : {T : Type 0} → Actor → RecordId → PartsState T → PartsState T
with_let_go actor made parts = with_event actor (Collect made) parts
