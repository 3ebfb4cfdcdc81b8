-- A cluster as its contracts see it, and what is true of every cluster.
use Rattle.std.specs.Prelude.{◌≡◌, ◌≤◌, ◌<◌, ℕ, Bool, true, false, List, length, Some, option_map}
use Rattle.std.specs.List.{AllByRecursion}
use Rattle.tl_types.specs.Block.{FileOutcome}
use Rattle.tl_types.specs.Outcome.{digest_of}
use Rattle.tl_types.specs.declared.actor.Actor.{Actor}
use Rattle.tl_types.specs.declared.record_id.RecordId.{RecordId}
use Rattle.tl_types.specs.declared.file_id.FileId.{FileId}
use Rattle.tl_types.specs.declared.outcome.Outcome.TheVariants as outcome
use Rattle.tl_model.specs.declared.event.Event.{Event}
use Rattle.tl_model.specs.declared.header.Header.{Header}
use Rattle.tl_model.specs.declared.record.Record.{Record}
use Rattle.tl_model.specs.declared.record.Record.TheVariants as kind
use Rattle.tl_model.specs.Past.{Past, events_with, without_tickets}
use Rattle.tl_model.specs.History.{records, record_at, is_job}
use Rattle.tl_model.specs.Actors.{OpenClaim, open_claim}
use Rattle.tl_model.specs.Values.{value}
use Rattle.tl_model.specs.Residency.{place, saved_as}
use Rattle.tl_model.specs.Rules.{Judge, legal_judge, can_drop, is_lawful, holds, put_of, has_digest}
use Rattle.tl_core.specs.declared.resident.Resident.{Resident}
use Rattle.tl_core.specs.Residents.{Residents, place_in}
use Rattle.tl_core.specs.Puts.{KeptPut, kept_put, as_saved, IsWhole}
use Rattle.tl_core.specs.Room.{under_way}

-- the header, the events with the newest first, and what is in the workers' memories
pub record State (T : Type 0) : Type 0 where
  pub header : Header
  pub events : List (Event T)
  pub residents : Residents

-- Where the bytes are known, all is asked that legality asks but drops: which file is dropped, and that one is owed.
abbrev pub undropped_judge : Header → Judge (List ℕ)
undropped_judge header = record (legal_judge header) {
  drops = λ past worker f. can_drop (without_tickets past) worker f;
  owes_drop = λ past. false;
}

-- A block may be held where its file is an accepted record's; where it has the digest of the put, if a put made the file;
-- and where it is what the file holds, if the bytes are told.
abbrev pub Fits : {T : Type 0} → Bool → (T → List ℕ) → List (Event T) → FileOutcome → Type 0
Fits tells content events block =
    (block.file.rec.0 < length (records (without_tickets events)))
    × (has_digest (put_of events block.file) (record { 0 = digest_of block.outcome }) ≡ true)
    × (tells ≡ true → block.outcome ≡ value (events_with content events) block.file)

-- a resident's block fits, and it is where the past says
abbrev pub IsHeld : {T : Type 0} → Bool → (T → List ℕ) → List (Event T) → Resident → Type 0
IsHeld tells content events resident =
    (place (without_tickets events) resident.block.file ≡ Some resident.worker) × Fits tells content events resident.block

-- a job's program keeps the kind rules for the job's own numbers of inputs and outputs
abbrev pub IsSound : Record → Type 0
IsSound (kind.Put id) = Unit {0}
IsSound (kind.Job id core prio inputs outputs) = (core.program.inputs ≡ length inputs) × (core.program.outputs ≡ outputs)

-- the record of this number is a job
abbrev pub IsJobAt : Past → RecordId → Type 0
IsJobAt past made = (r : Record) × (record_at past made ≡ Some r) × (is_job r ≡ true)

-- what is true of every cluster
pub record Stands {T : Type 0} (tells : Bool) (content : T → List ℕ) (header : Header) (events : List (Event T)) (residents : Residents) (spare : ℕ) : Type 0 where
  pub lawful : is_lawful header events ≡ true
  pub told : tells ≡ true → holds (undropped_judge header) header (events_with content events) ≡ true
  pub places : (f : FileId) → place_in f residents ≡ place (without_tickets events) f
  pub blocks : AllByRecursion (IsHeld tells content events) residents
  pub sound : AllByRecursion IsSound (records (without_tickets events))
  -- just the puts are saved, each with its size and digest
  pub saved : (f : FileId) → saved_as (without_tickets events) f ≡ option_map as_saved (kept_put events f)
  -- a put's file holds the bytes of its ticket
  pub puts : (f : FileId) (put : KeptPut T) → kept_put events f ≡ Some put →
      (record_at (without_tickets events) f.rec ≡ Some (kind.Put f.rec)) × (value (events_with content events) f ≡ outcome.Value (content put.ticket))
  pub whole : (f : FileId) (put : KeptPut T) → kept_put events f ≡ Some put → IsWhole tells content put
  -- what is claimed is a job
  pub jobs : (actor : Actor) (claim : OpenClaim) → open_claim (without_tickets events) actor ≡ Some claim → IsJobAt (without_tickets events) claim.made
  -- what is under way can be ended without asking for memory
  pub room : under_way (without_tickets events) ≤ spare
