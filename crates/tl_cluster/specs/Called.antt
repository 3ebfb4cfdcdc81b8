-- What a call answers, and what it leaves.
use Rattle.std.specs.Prelude.{◌≡◌, ◌≤◌, ℕ, List, ◌∷◌, length, Option, Some, None, if◌then◌else◌}
use Rattle.tl_types.specs.Block.{FileOutcome}
use Rattle.tl_types.specs.Same.{file_same}
use Rattle.tl_types.specs.declared.actor.Actor.{Actor}
use Rattle.tl_types.specs.declared.digest.Digest.{Digest}
use Rattle.tl_types.specs.declared.file_id.FileId.{FileId}
use Rattle.tl_model.specs.declared.command.Command.{Command}
use Rattle.tl_model.specs.declared.command.Command.TheVariants.{Put, Job, Free as free}
use Rattle.tl_model.specs.declared.reply.Reply.{Reply}
use Rattle.tl_model.specs.declared.reply.Reply.TheVariants.{Made}
use Rattle.tl_model.specs.declared.event.Act.TheVariants.{Call, Saved, Free}
use Rattle.tl_model.specs.declared.event.Event.{Event}
use Rattle.tl_model.specs.Past.{Past, without_tickets}
use Rattle.tl_model.specs.History.{calls_of, names_of, reply_after}
use Rattle.tl_model.specs.Journal.{call_count}
use Rattle.tl_model.specs.Residency.{is_resident}
use Rattle.tl_ledger.specs.Naming.{file_named}
use Rattle.tl_cluster.specs.State.{State, held}
use Rattle.tl_cluster.specs.Turned.{Turned}

-- a file that a put made, with the length and the digest of its bytes
pub record MadePut : Type 0 where
  pub file : FileId
  pub len : ℕ
  pub digest : Digest

-- the length and the digest of the bytes of a put
pub record PutBytes : Type 0 where
  pub len : ℕ
  pub digest : Digest

abbrev pub bytes_put : {T : Type 0} → Command T → Option PutBytes
bytes_put (Put path len digest ticket) = Some (record { len = len; digest = digest })
bytes_put _ = None

-- the file that is made of the bytes, where the reply accepts them
abbrev pub made_of : Reply → Option PutBytes → Option MadePut
made_of (Made made) (Some put) =
    Some (record { file = record { rec = made; out = 0 }; len = put.len; digest = put.digest })
made_of _ _ = None

-- what is saved by an accepted put
abbrev pub put_made : {T : Type 0} → Reply → Command T → Option MadePut
put_made reply command = made_of reply (bytes_put command)

-- the events with the Saved that follows an accepted put
abbrev pub with_saved : {T : Type 0} → Actor → Option MadePut → List (Event T) → List (Event T)
with_saved actor None events = events
with_saved actor (Some put) events =
    record { actor = actor; act = Saved put.file put.len put.digest } ∷ events

-- the file that a free names
abbrev pub file_to_free : {T : Type 0} → List (Event T) → Command T → Option FileId
file_to_free events (free path) = file_named (names_of (calls_of events)) path
file_to_free events _ = None

abbrev pub if_resident : Past → Option FileId → Option FileId
if_resident past None = None
if_resident past (Some f) = if is_resident past f then Some f else None

-- the file that a call takes out of memory: that of a free, where it is in one
abbrev pub freed : {T : Type 0} → List (Event T) → Command T → Option FileId
freed events command = if_resident (without_tickets events) (file_to_free events command)

-- the events with the Free that follows
abbrev pub with_freed : {T : Type 0} → Actor → Option FileId → List (Event T) → List (Event T)
with_freed actor None events = events
with_freed actor (Some f) events = record { actor = actor; act = Free f } ∷ events

-- the events with a call that was answered so, and what follows it: the Saved of an accepted
-- put, the Free of a file that was in memory
abbrev pub after_call : {T : Type 0} → Actor → Command T → Reply → List (Event T) → List (Event T)
after_call actor command reply events =
    with_freed actor (freed events command)
    (with_saved actor (put_made reply command)
    (record { actor = actor; act = Call command reply } ∷ events))

-- a put's bytes are no more than a file may have; a job's program keeps the kind rules for as
-- many inputs and outputs as there are paths
abbrev pub IsFitting : {T : Type 0} → Command T → Type 0
IsFitting (Put path len digest ticket) = len ≤ 1048576
IsFitting (Job core prio inputs outputs) =
    (core.program.inputs ≡ length inputs) × (core.program.outputs ≡ length outputs)
IsFitting _ = Unit {0}

-- what is held once a file was freed
abbrev pub without_file : {T : Type 0} → Option FileId → State T → FileId → Option FileOutcome
without_file None state f = held f state.workers
without_file (Some g) state f = if file_same f g then None else held f state.workers

-- a call answers its number in the history and the reply that the history determines, and is
-- recorded, with what follows it; a freed file is held no more
abbrev pub Called : {T : Type 0} → State T → State T → Actor → Command T → ℕ × Reply → Type 0
Called old new actor command answer =
    (answer.0 ≡ call_count old.events)
    × (answer.1 ≡ reply_after (calls_of old.events) command)
    × Turned actor old (after_call actor command answer.1 old.events)
    (without_file (freed old.events command) old) new
