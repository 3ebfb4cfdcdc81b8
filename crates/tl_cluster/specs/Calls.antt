-- What the main event of a call makes of the parts.
use Rattle.std.specs.Prelude.{◌≡◌, ℕ, Bool, true, List, length, Option, Some, None, is_some, if◌then◌else◌}
use Rattle.tl_types.specs.Same.{file_same}
use Rattle.tl_types.specs.declared.actor.Actor.{Actor}
use Rattle.tl_types.specs.declared.file_id.FileId.{FileId}
use Rattle.tl_model.specs.declared.command.Command.{Command}
use Rattle.tl_model.specs.declared.command.Command.TheVariants.{Put}
use Rattle.tl_model.specs.declared.reply.Reply.{Reply}
use Rattle.tl_model.specs.declared.reply.Reply.TheVariants.{Made}
use Rattle.tl_model.specs.declared.event.Event.{Event}
use Rattle.tl_model.specs.declared.saved.Saved.{Saved}
use Rattle.tl_model.specs.declared.saved.Saved.TheVariants.{Held}
use Rattle.tl_model.specs.Past.{without_tickets}
use Rattle.tl_model.specs.History.{calls_of, records, reply_after}
use Rattle.tl_model.specs.Journal.{call_count}
use Rattle.tl_fleet.specs.Workers.{Workers, all_without}
use Rattle.tl_vault.specs.Vault.{Places, has_place, saved_of}
use Rattle.tl_cluster.specs.declared.parts.calling.PutCopy.{PutCopy}
use Rattle.tl_cluster.specs.Called.{PutBytes, after_call, freed}
use Rattle.tl_cluster.specs.Stands.{PartsState, Stands}

-- a ticket of its own for the bytes of a put, with their length and digest; of another command none
abbrev pub IsCopyOfPut : {T : Type 0} → (T → List ℕ) → Command T → Option (PutCopy T) → Type 0
IsCopyOfPut content (Put path len digest ticket) None = ⊥
IsCopyOfPut content (Put path len digest ticket) (Some put) =
    (content put.ticket ≡ content ticket) × (put.len ≡ len) × (put.digest ≡ digest)
IsCopyOfPut content _ None = Unit {0}
IsCopyOfPut content _ (Some put) = ⊥

abbrev pub bytes_of : {T : Type 0} → PutCopy T → PutBytes
bytes_of put = record { len = put.len; digest = put.digest }

-- the file that the next record makes first
abbrev pub next_file : {T : Type 0} → List (Event T) → FileId
next_file events =
    record { rec = record { 0 = length (records (without_tickets events)) }; out = 0 }

-- a put's file has its place in the checkpoint store
abbrev pub HasPlace : {T : Type 0} → PartsState T → Option (PutCopy T) → Type 0
HasPlace parts put = is_some put ≡ true → has_place (next_file parts.events) parts.vault ≡ true

-- an accepted put's file has its place, and nothing is kept of it
abbrev pub CanKeep : {T : Type 0} → Reply → Option (PutCopy T) → Places T → Type 0
CanKeep (Made made) (Some put) places =
    (has_place (record { rec = made; out = 0 }) places ≡ true)
    × (saved_of (record { rec = made; out = 0 }) places ≡ None)
CanKeep _ _ places = Unit {0}

-- what is kept of a file once a put was accepted, where this was kept of it before
abbrev pub kept_after : {T : Type 0} →
    Reply → Option (PutCopy T) → FileId → Option (Saved T) → Option (Saved T)
kept_after (Made made) (Some put) f before =
    if file_same f (record { rec = made; out = 0 }) then Some (Held put.ticket put.len put.digest)
    else before
kept_after _ _ f before = before

-- what is in the memories once a file was freed
abbrev pub workers_without : Option FileId → Workers → Workers
workers_without None workers = workers
workers_without (Some f) workers = all_without f workers

-- the call was answered, and recorded with what follows it; a freed file is in no memory
pub record IsAnswered {T : Type 0} (old new : PartsState T) (actor : Actor) (command : Command T)
    (answer : ℕ × Reply) : Type 0 where
  pub number : answer.0 ≡ call_count old.events
  pub reply : answer.1 ≡ reply_after (calls_of old.events) command
  pub header : new.header ≡ old.header
  pub events : new.events ≡ after_call actor command answer.1 old.events
  pub workers : new.workers ≡ workers_without (freed old.events command) old.workers

-- nothing changed but the room: that of the journal, and that of the checkpoint store
pub record HasMoreRoom {T : Type 0} (tells : Bool) (content : T → List ℕ)
    (old new : PartsState T) : Type 0 where
  pub header : new.header ≡ old.header
  pub events : new.events ≡ old.events
  pub workers : new.workers ≡ old.workers
  pub stands : Stands tells content new
