-- What one event makes of an actor, a file and a record.
use Rattle.std.specs.Prelude.{◌≡◌, ℕ, zero, suc, Bool, true, false, ◌&&◌, not, List, [], ◌∷◌, Option, Some, None, if◌then◌else◌}
use Rattle.std.specs.List.{list_any}
use Rattle.tl_types.specs.Same.{actor_same, file_same, record_same}
use Rattle.tl_types.specs.declared.actor.Actor.{Actor}
use Rattle.tl_types.specs.declared.file_id.FileId.{FileId}
use Rattle.tl_types.specs.declared.record_id.RecordId.{RecordId}
use Rattle.tl_types.specs.declared.worker_id.WorkerId.{WorkerId}
use Rattle.tl_model.specs.declared.command.Command.{Command}
use Rattle.tl_model.specs.declared.command.Command.TheVariants.{Put, Job}
use Rattle.tl_model.specs.declared.reply.Reply.{Reply}
use Rattle.tl_model.specs.declared.reply.Reply.TheVariants.{Made}
use Rattle.tl_model.specs.declared.event.Act.{Act}
use Rattle.tl_model.specs.declared.event.Act.TheVariants.{Call, Done, Lose, Free, Drop, Load, Saved}
use Rattle.tl_model.specs.declared.record.Record.{Record}
use Rattle.tl_model.specs.Past.{Past, Plain}
use Rattle.tl_model.specs.History.{is_named, names, record_made}
use Rattle.tl_model.specs.Actors.{OpenRead, OpenClaim, claim_after, claim_after_loss, claims_record, open_claim, open_read, read_after, reads_file}
use Rattle.tl_model.specs.Residency.{is_at}
use Rattle.tl_steps.specs.declared.seat.Seat.{Seat}

-- ---- actors

abbrev pub new_seat : Actor → Seat
new_seat actor = record { actor = actor; read = None; claim = None }

abbrev pub is_read_at : List Seat → FileId → Bool
is_read_at seats f = list_any (λ seat. reads_file f seat.read) seats

abbrev pub is_running_at : List Seat → RecordId → Bool
is_running_at seats made = list_any (λ seat. claims_record made seat.claim) seats

abbrev pub read_step : Plain → Actor → Option OpenRead → Option OpenRead
read_step e actor before = if actor_same actor e.actor then read_after e.act before else before

abbrev pub claim_step : Plain → Actor → Option OpenClaim → Option OpenClaim
claim_step e actor before = claim_after_loss e.act (if actor_same actor e.actor then claim_after e.act before else before)

-- what an actor has open after an event
abbrev pub seat_after : Plain → Seat → Seat
seat_after e before = record {
  actor = before.actor;
  read = read_step e before.actor before.read;
  claim = claim_step e before.actor before.claim;
}

-- what an actor has open after a past
abbrev pub seat_of : Past → Actor → Seat
seat_of past actor = record { actor = actor; read = open_read past actor; claim = open_claim past actor }

-- ---- files

abbrev pub place_after_done : Bool → WorkerId → Option WorkerId → Option WorkerId
place_after_done is_made worker (Some here) = Some here
place_after_done is_made worker None = if is_made then Some worker else None

-- where a file is after an act, where before it it was here; a done brings each output of its record
abbrev pub place_now : Act (Unit {0}) → FileId → Option WorkerId → Option WorkerId
place_now (Load worker g) f here = if file_same f g then Some worker else here
place_now (Done worker made) f here = place_after_done (record_same f.rec made) worker here
place_now (Lose worker) f here = if is_at worker here then None else here
place_now (Drop worker g) f here = if file_same f g && is_at worker here then None else here
place_now (Free g) f here = if file_same f g then None else here
place_now _ f here = here

abbrev pub saves_now : Act (Unit {0}) → FileId → Bool
saves_now (Saved g size digest) f = file_same f g
saves_now _ f = false

-- ---- names

-- the file is the one that loses its name
abbrev pub is_gone : Option FileId → FileId → Bool
is_gone None f = false
is_gone (Some lost) f = file_same f lost

-- the file is named before the event, and not after it
abbrev pub loses_name : Past → Plain → FileId → Bool
loses_name past e f = is_named past f && not (is_named (e ∷ past) f)

-- this is the file that the event leaves without a name; None where there is no such file
abbrev pub UnnamesOnly : Past → Plain → Option FileId → Type 0
UnnamesOnly past e gone = (f : FileId) → is_gone gone f ≡ loses_name past e f

-- ---- records

-- whether an act adds a record
abbrev pub accepts_with : Reply → Command (Unit {0}) → Bool
accepts_with (Made made) (Put path len digest ticket) = true
accepts_with (Made made) (Job core prio inputs outputs) = true
accepts_with _ _ = false

abbrev pub accepts : Act (Unit {0}) → Bool
accepts (Call command reply) = accepts_with reply command
accepts _ = false

-- what an act adds, of the one thing for which there is a place
abbrev pub next_of : {A : Type 0} → Act (Unit {0}) → Option A → Option A
next_of act next = if accepts act then next else None

-- the place that is left
abbrev pub left_room : {A : Type 0} → Act (Unit {0}) → Option A → Option A
left_room act next = if accepts act then None else next

-- the record that an act adds after a past, if it adds one
abbrev pub added : Past → Act (Unit {0}) → List Record
added past (Call command reply) = record_made reply command (names past)
added past _ = []

-- ---- lists

-- the element at a place changes, where there is one
abbrev pub changed_at : {A : Type 0} → ℕ → (A → A) → List A → List A
changed_at n change [] = []
changed_at zero change (x ∷ xs) = change x ∷ xs
changed_at (suc n) change (x ∷ xs) = x ∷ changed_at n change xs
