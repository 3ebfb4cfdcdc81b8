-- What a client's command leaves in the journal, and what it is answered.
use Rattle.std.specs.Prelude.{◌≡◌, ◌⊎◌, ◌<◌, ◌≤◌, ℕ, Bool, true, false, List, [], ◌∷◌, length, Option, Some, None}
use Rattle.sha2.specs.Sha256.{sha256}
use Rattle.tl_types.specs.Block.{FileOutcome}
use Rattle.tl_types.specs.Outcome.{digest_of}
use Rattle.tl_types.specs.declared.actor.Actor.{Actor}
use Rattle.tl_types.specs.declared.digest.Digest.{Digest}
use Rattle.tl_types.specs.declared.file_id.FileId.{FileId}
use Rattle.tl_types.specs.declared.record_id.RecordId.{RecordId}
use Rattle.tl_types.specs.declared.worker_id.WorkerId.{WorkerId}
use Rattle.tl_model.specs.declared.answer.Answer.{Answer}
use Rattle.tl_model.specs.declared.answer.Answer.TheVariants.{Said, Read, NotYet, Count}
use Rattle.tl_model.specs.declared.answer.Counted.TheVariants.{Work}
use Rattle.tl_model.specs.declared.command.Command.{Command}
use Rattle.tl_model.specs.declared.command.Command.TheVariants.{Put}
use Rattle.tl_model.specs.declared.command.Command.TheVariants as commands
use Rattle.tl_model.specs.declared.reply.Reply.{Reply}
use Rattle.tl_model.specs.declared.reply.Reply.TheVariants.{Opened}
use Rattle.tl_model.specs.declared.event.Act.TheVariants.{Call, Served, Shut, Claim, Done, Load}
use Rattle.tl_model.specs.declared.event.Event.{Event}
use Rattle.tl_model.specs.declared.header.OrderRule.{OrderRule}
use Rattle.tl_model.specs.Journal.{call_count}
use Rattle.tl_model.specs.Past.{Told, events_with, without_tickets}
use Rattle.tl_model.specs.History.{calls_of, reply_after}
use Rattle.tl_model.specs.Residency.{is_available}
use Rattle.tl_model.specs.Plan.{next}
use Rattle.tl_model.specs.Values.{value}
use Rattle.tl_core.specs.Called.{after_call}
use Rattle.tl_client.specs.declared.names.NameCommand.{NameCommand}
use Rattle.tl_client.specs.declared.names.NameCommand.TheVariants as asked

-- events whose tickets are the bytes themselves
abbrev pub Events : Type 0
Events = List (Event (List ℕ))

abbrev pub told : Events → Told
told events = events_with (λ bytes. bytes) events

-- ---- one call

abbrev pub call_event : {T : Type 0} → Actor → Command T → Reply → Event T
call_event actor command reply = record { actor = actor; act = Call command reply }

-- the command was answered as the history determines, at its number in the history; the journal has the call, and what follows it: after an
-- accepted put its Saved, and after a free the Free of a file that was in memory
abbrev pub IsSaid : Events → Events → Actor → Command (List ℕ) → Answer → Type 0
IsSaid before after actor command (Said at reply) =
    (at ≡ call_count before) × (reply ≡ reply_after (calls_of before) command)
    × (after ≡ after_call actor command reply before)
IsSaid before after actor command _ = ⊥

-- the put of these bytes, with their length and digest
abbrev pub IsPut : Events → Events → Actor → List (List ℕ) → List ℕ → Answer → Type 0
IsPut before after actor path bytes answer =
    (digest : Digest) × (digest.0 ≡ sha256 bytes) × IsSaid before after actor (Put path (length bytes) digest bytes) answer

-- what is asked, as a command
abbrev pub command_of : {T : Type 0} → NameCommand → Command T
command_of (asked.Delete path) = commands.Delete path
command_of (asked.Mkdir path) = commands.Mkdir path
command_of (asked.Rename from to) = commands.Rename from to
command_of (asked.Pin path) = commands.Pin path
command_of (asked.Unpin path) = commands.Unpin path
command_of (asked.List path) = commands.List path
command_of (asked.Stat path) = commands.Stat path
command_of (asked.Free path) = commands.Free path

-- ---- running what is next

abbrev pub with_run : {T : Type 0} → Actor → WorkerId → RecordId → List (Event T) → List (Event T)
with_run actor worker made events = record { actor = actor; act = Done worker made } ∷ record { actor = actor; act = Claim worker made } ∷ events

-- the actor ran these records one after another, the last first, each where it was next and the file wasn't available
abbrev pub Ran : {T : Type 0} → OrderRule → Actor → WorkerId → FileId → List RecordId → List (Event T) → List (Event T) → Type 0
Ran order actor worker f [] before after = after ≡ before
Ran {T} order actor worker f (made ∷ earlier) before after =
    (between : List (Event T)) × Ran order actor worker f earlier before between
    × (is_available (without_tickets between) f ≡ false) × (next order (without_tickets between) ≡ Some made) × (after ≡ with_run actor worker made between)

-- one record was run, or none is next and nothing was done
abbrev pub RanNext : OrderRule → Events → Events → Actor → WorkerId → Bool → Type 0
RanNext order before after actor worker true =
    (made : RecordId) × (next order (without_tickets before) ≡ Some made) × (after ≡ with_run actor worker made before)
RanNext order before after actor worker false = (next order (without_tickets before) ≡ None) × (after ≡ before)

-- the actor ran these records one after another, the last first, each where it was next
abbrev pub RanInTurn : {T : Type 0} → OrderRule → Actor → WorkerId → List RecordId → List (Event T) → List (Event T) → Type 0
RanInTurn order actor worker [] before after = after ≡ before
RanInTurn {T} order actor worker (made ∷ earlier) before after =
    (between : List (Event T)) × RanInTurn order actor worker earlier before between
    × (next order (without_tickets between) ≡ Some made) × (after ≡ with_run actor worker made between)

-- k records were run: n, or fewer and then none is next
abbrev pub RanUpTo : OrderRule → Events → Events → Actor → WorkerId → ℕ → ℕ → Type 0
RanUpTo order before after actor worker n k =
    (ran : List RecordId) × RanInTurn order actor worker ran before after × (length ran ≡ k) × (k ≤ n)
    × (k < n → next order (without_tickets after) ≡ None)

-- the answer is how many were run, of n
abbrev pub IsWorked : OrderRule → Events → Events → Actor → WorkerId → ℕ → Answer → Type 0
IsWorked order before after actor worker n (Count Work k) = RanUpTo order before after actor worker n k
IsWorked order before after actor worker n _ = ⊥

-- ---- a read

-- the read was served, and before that the file was loaded to the worker, or not
abbrev pub IsServed : {T : Type 0} → Actor → WorkerId → FileId → Digest → List (Event T) → List (Event T) → Type 0
IsServed actor worker f digest before after =
    (after ≡ record { actor = actor; act = Served f digest } ∷ before)
    ⊎ (after ≡ record { actor = actor; act = Served f digest } ∷ record { actor = actor; act = Load worker f } ∷ before)

-- the read was served by the block, which is what the file holds in the run without failures
pub record IsServedBy (before after : Events) (actor : Actor) (worker : WorkerId) (f : FileId) (block : FileOutcome) : Type 0 where
  pub digest : Digest
  pub served : IsServed actor worker f digest before after
  pub file : block.file ≡ f
  pub outcome : block.outcome ≡ value (told after) f
  pub digest_is : digest.0 ≡ digest_of block.outcome

-- from these events on, what is next was run until the file was available; then the read was served by its block
pub record IsReadThrough (order : OrderRule) (before after : Events) (actor : Actor) (worker : WorkerId) (f : FileId) (block : FileOutcome) : Type 0 where
  pub ran : List RecordId
  pub served_at : Events
  pub runs : Ran order actor worker f ran before served_at
  pub served : IsServedBy served_at after actor worker f block

-- the call of the read, and what came after it
abbrev pub IsReadOf : OrderRule → Events → Events → Actor → WorkerId → Command (List ℕ) → FileId → Answer → Type 0
IsReadOf order before after actor worker command f (Read at block) =
    (at ≡ call_count before) × IsReadThrough order (call_event actor command (Opened f) ∷ before) after actor worker f block
IsReadOf order before after actor worker command f _ = ⊥

-- a read that was answered so by the namespace
abbrev pub IsRead : OrderRule → Events → Events → Actor → WorkerId → Command (List ℕ) → Reply → Answer → Type 0
IsRead order before after actor worker command (Opened f) answer = IsReadOf order before after actor worker command f answer
IsRead order before after actor worker command _ answer = IsSaid before after actor command answer

-- ---- a read that does not wait

-- the file was available, and the read was served; or it was neither in a memory nor saved, and nothing was done
abbrev pub IsServedNow : Events → Events → Actor → WorkerId → FileId → Option FileOutcome → Type 0
IsServedNow before after actor worker f (Some block) =
    (is_available (without_tickets before) f ≡ true) × IsServedBy before after actor worker f block
IsServedNow before after actor worker f None = (is_available (without_tickets before) f ≡ false) × (after ≡ before)

-- the same, but that the read was shut where the file wasn't available
abbrev pub IsTriedNow : Events → Events → Actor → WorkerId → FileId → Option FileOutcome → Type 0
IsTriedNow before after actor worker f (Some block) =
    (is_available (without_tickets before) f ≡ true) × IsServedBy before after actor worker f block
IsTriedNow before after actor worker f None =
    (is_available (without_tickets before) f ≡ false) × (after ≡ record { actor = actor; act = Shut f } ∷ before)

-- the call of the read, and the one look after it
abbrev pub IsTriedOf : Events → Events → Actor → WorkerId → Command (List ℕ) → FileId → Answer → Type 0
IsTriedOf before after actor worker command f (Read at block) =
    (at ≡ call_count before) × IsTriedNow (call_event actor command (Opened f) ∷ before) after actor worker f (Some block)
IsTriedOf before after actor worker command f (NotYet at g) =
    (at ≡ call_count before) × (g ≡ f) × IsTriedNow (call_event actor command (Opened f) ∷ before) after actor worker f None
IsTriedOf before after actor worker command f _ = ⊥

-- a read that does not wait, and that was answered so by the namespace
abbrev pub IsTried : Events → Events → Actor → WorkerId → Command (List ℕ) → Reply → Answer → Type 0
IsTried before after actor worker command (Opened f) answer = IsTriedOf before after actor worker command f answer
IsTried before after actor worker command _ answer = IsSaid before after actor command answer
