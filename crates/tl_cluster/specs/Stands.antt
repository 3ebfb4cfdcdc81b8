-- What is true of every cluster.
use Rattle.std.specs.Prelude.{◌≡◌, ◌≤◌, ◌<◌, ◌+◌, ℕ, Bool, true, List, length, slice_get, Some, None, option_map}
use Rattle.std.specs.List.{AllByRecursion}
use Rattle.tl_types.specs.Block.{FileOutcome}
use Rattle.tl_types.specs.Outcome.{digest_of}
use Rattle.tl_types.specs.declared.actor.Actor.{Actor}
use Rattle.tl_types.specs.declared.digest.Digest.{Digest}
use Rattle.tl_types.specs.declared.file_id.FileId.{FileId}
use Rattle.tl_types.specs.declared.record_id.RecordId.{RecordId}
use Rattle.tl_types.specs.declared.worker_id.WorkerId.{WorkerId}
use Rattle.tl_model.specs.declared.event.Event.{Event}
use Rattle.tl_model.specs.declared.header.Header.{Header}
use Rattle.tl_model.specs.declared.record.Record.{Record}
use Rattle.tl_model.specs.declared.record.Record.TheVariants as kind
use Rattle.tl_model.specs.Past.{Past, events_with, without_tickets}
use Rattle.tl_model.specs.History.{records, record_at, is_job}
use Rattle.tl_model.specs.Actors.{OpenClaim, OpenRead, open_claim, open_read, open_save}
use Rattle.tl_model.specs.Values.{value}
use Rattle.tl_model.specs.Residency.{SavedAs, saved_as}
use Rattle.tl_model.specs.Eviction.{Sizes, first_to_drop}
use Rattle.tl_model.specs.Rules.{all_permitted, legal_judge, is_lawful, put_of, has_digest, has_size_and_digest, size_of}
use Rattle.tl_fleet.specs.Order.{StandsInOrder}
use Rattle.tl_fleet.specs.Workers.{Workers, found, held_count, incarnation_of}
use Rattle.tl_vault.specs.Vault.{Places, has_place, saved_of}
use Rattle.tl_cluster.specs.Kept.{IsKept}
use Rattle.tl_cluster.specs.Losses.{incarnation}
use Rattle.tl_cluster.specs.Room.{under_way}

-- The parts of a cluster: the header, the events with the newest first and how many more have room;
-- what is in the workers' memories; and what is kept in the checkpoint store.
pub record PartsState (T : Type 0) : Type 0 where
  pub header : Header
  pub events : List (Event T)
  pub spare : ℕ
  pub workers : Workers
  pub vault : Places T

-- A block may be held where its file is an accepted record's; where it has the digest of the
-- put, if a put made the file; and where it is what the file holds, if the bytes are told.
abbrev pub Fits : {T : Type 0} → Bool → (T → List ℕ) → List (Event T) → FileOutcome → Type 0
Fits tells content events block =
    (block.file.rec.0 < length (records (without_tickets events)))
    × (has_digest (put_of events block.file) (record { 0 = digest_of block.outcome }) ≡ true)
    × (tells ≡ true → block.outcome ≡ value (events_with content events) block.file)

-- a job's program keeps the kind rules for the job's own numbers of inputs and outputs
abbrev pub IsSound : Record → Type 0
IsSound (kind.Put id) = Unit {0}
IsSound (kind.Job id core prio inputs outputs) =
    (core.program.inputs ≡ length inputs) × (core.program.outputs ≡ outputs)

-- the record of this number is a job
abbrev pub IsJobAt : Past → RecordId → Type 0
IsJobAt past made = (r : Record) × (record_at past made ≡ Some r) × (is_job r ≡ true)

-- the actor has a read open on the file
abbrev pub IsReading : Past → Actor → FileId → Type 0
IsReading past actor f =
    (read : OpenRead) × (open_read past actor ≡ Some read) × (read.file ≡ f)

-- The parts agree with the journal. It is lawful, and where the bytes are told, legal but for the
-- drops that may be owed at its end.
pub record Agrees {T : Type 0} (tells : Bool) (content : T → List ℕ)
    (parts : PartsState T) : Type 0 where
  pub lawful : is_lawful parts.header parts.events ≡ true
  pub permitted : tells ≡ true →
      all_permitted (legal_judge parts.header) parts.header
      (events_with content parts.events) ≡ true
  -- the workers have the files that the journal has there, in order, of some sizes, and where the
  -- bytes are told, of the true ones
  pub sized : (sizes : Sizes)
      × StandsInOrder sizes parts.header (without_tickets parts.events) parts.workers
  pub told_sized : tells ≡ true →
      StandsInOrder (size_of (events_with content parts.events)) parts.header
      (without_tickets parts.events) parts.workers
  pub blocks : (f : FileId) (worker : WorkerId) (block : FileOutcome) →
      found f parts.workers ≡ Some (worker, block) → Fits tells content parts.events block
  -- a worker's incarnation is how often it was lost
  pub losses : (worker : WorkerId) (n : ℕ) →
      option_map incarnation_of (slice_get parts.workers worker.0) ≡ Some n →
      n ≡ incarnation parts.events worker
  pub sound : AllByRecursion IsSound (records (without_tickets parts.events))
  -- what is saved is kept, and nothing else
  pub kept : (f : FileId) →
      IsKept tells content (value (events_with content parts.events) f)
      (saved_as (without_tickets parts.events) f) (saved_of f parts.vault)
  -- what was put is saved as it was put
  pub saved : (f : FileId) (known : SavedAs) →
      saved_as (without_tickets parts.events) f ≡ Some known →
      has_size_and_digest (put_of parts.events f) known.size known.digest ≡ true
  -- what was put is the file of a put
  pub puts : (f : FileId) (put : ℕ × Digest) → put_of parts.events f ≡ Some put →
      record_at (without_tickets parts.events) f.rec ≡ Some (kind.Put f.rec)
  -- what is claimed is a job
  pub jobs : (actor : Actor) (claim : OpenClaim) →
      open_claim (without_tickets parts.events) actor ≡ Some claim →
      IsJobAt (without_tickets parts.events) claim.made
  -- what is being saved has its place
  pub places : (actor : Actor) (f : FileId) →
      open_save (without_tickets parts.events) actor ≡ Some f →
      has_place f parts.vault ≡ true
  -- what is under way can be ended, and what is held dropped, without asking for memory
  pub room : under_way (without_tickets parts.events) + held_count parts.workers ≤ parts.spare

-- and where the bytes are told no worker must drop a file
pub record Stands {T : Type 0} (tells : Bool) (content : T → List ℕ)
    (parts : PartsState T) : Type 0 where
  pub agrees : Agrees tells content parts
  pub settled : tells ≡ true →
      first_to_drop (size_of (events_with content parts.events)) parts.header
      (without_tickets parts.events) ≡ None

-- there is room for a turn, after which so many blocks more may be held, and nothing else changed
pub record IsRoomier {T : Type 0} (more : ℕ) (old new : PartsState T) : Type 0 where
  pub is : new ≡ record old { spare = new.spare }
  pub never_less : old.spare ≤ new.spare
  pub room : 51 + held_count old.workers + more ≤ new.spare

-- nothing changed but the room
pub record IsRoomierOnly {T : Type 0} (tells : Bool) (content : T → List ℕ)
    (old new : PartsState T) : Type 0 where
  pub is : new ≡ record old { spare = new.spare }
  pub stands : Stands tells content new

-- nothing changed but rooms
pub record IsReady {T : Type 0} (tells : Bool) (content : T → List ℕ)
    (old new : PartsState T) : Type 0 where
  pub header : new.header ≡ old.header
  pub events : new.events ≡ old.events
  pub workers : new.workers ≡ old.workers
  pub stands : Stands tells content new
