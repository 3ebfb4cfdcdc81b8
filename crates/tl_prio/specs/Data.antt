-- What is kept of records, files, actors and turns, what one event makes of it, and the walk that
-- finds priorities.
use Rattle.std.specs.Prelude.{◌≡◌, ℕ, max, Bool, false, ◌&&◌, ◌||◌, not, List, [], ◌∷◌, ◌++◌, map, slice_get, Option, Some, None, is_some, if◌then◌else◌}
use Rattle.std.specs.List.{list_any}
use Rattle.tl_types.specs.Same.{file_same, record_same}
use Rattle.tl_types.specs.declared.file_id.FileId.{FileId}
use Rattle.tl_types.specs.declared.record_id.RecordId.{RecordId}
use Rattle.tl_model.specs.declared.event.Act.{Act}
use Rattle.tl_model.specs.declared.header.OrderRule.{OrderRule}
use Rattle.tl_model.specs.Past.{Past, Plain}
use Rattle.tl_model.specs.Actors.{OpenRead}
use Rattle.tl_model.specs.Residency.{does}
use Rattle.tl_model.specs.Plan.{greatest, has_turn_before, is_ready, is_task}
use Rattle.tl_steps.specs.declared.seat.Seat.{Seat}
use Rattle.tl_steps.specs.Steps.{changed_at, is_running_at, left_room, next_of, place_now, saves_now, seat_after}
use Rattle.tl_prio.specs.declared.choice.Choice.{Choice}
use Rattle.tl_prio.specs.declared.kept.Kept.{Kept}
use Rattle.tl_prio.specs.declared.output.Output.{Output}
use Rattle.tl_prio.specs.declared.turns.Turns.{Turns}

-- ---- files

abbrev pub new_output : FileId → Output
new_output f = record { file = f; place = None; is_saved = false }

abbrev pub is_here : Output → Bool
is_here output = is_some output.place || output.is_saved

-- a file after an act
abbrev pub output_after : Act (Unit {0}) → Output → Output
output_after act before = record {
  file = before.file;
  place = place_now act before.file before.place;
  is_saved = saves_now act before.file || before.is_saved;
}

abbrev pub outputs_after : Act (Unit {0}) → List Output → List Output
outputs_after act outputs = map (output_after act) outputs

-- ---- records

-- a record after an act
abbrev pub kept_after : Act (Unit {0}) → Kept → Kept
kept_after act before = record {
  made = before.made;
  inputs = before.inputs;
  prio = before.prio;
  was_done = does before.made act || before.was_done;
  outputs = outputs_after act before.outputs;
}

-- ---- turns

abbrev pub priorities : List ℕ
priorities = 0 ∷ 1 ∷ 2 ∷ 3 ∷ 4 ∷ 5 ∷ 6 ∷ 7 ∷ []

-- the counts of claims are these, by priority
abbrev pub HasClaims : Turns → (ℕ → ℕ) → Type 0
HasClaims turns claims = turns.claims ≡ map claims priorities

-- ---- one event

abbrev pub with_kept : Option Kept → List Kept → List Kept
with_kept None records = records
with_kept (Some kept) records = records ++ kept ∷ []

-- The accepted records with the files of each, by number; what each actor has open; whose turn it
-- is; and the record for which there is a place.
pub record OrderData : Type 0 where
  pub records : List Kept
  pub seats : List Seat
  pub turns : Turns
  pub next : Option Kept

-- what is kept after an event
abbrev pub order_after : Plain → OrderData → OrderData
order_after e order = record {
  records = with_kept (next_of e.act order.next) (map (kept_after e.act) order.records);
  seats = map (seat_after e) order.seats;
  turns = order.turns;
  next = left_room e.act order.next;
}

-- ---- a record's priority

abbrev pub own_prio_of : Kept → ℕ
own_prio_of kept = if kept.was_done then 0 else kept.prio

abbrev pub is_among : List Output → FileId → Bool
is_among outputs f = list_any (λ output. file_same f output.file) outputs

-- the priority of a read, where it is one on one of the files
abbrev pub read_prio : List Output → Option OpenRead → ℕ
read_prio outputs None = 0
read_prio outputs (Some read) = if is_among outputs read.file then read.prio else 0

abbrev pub greatest_read : List Output → List Seat → ℕ
greatest_read outputs seats = greatest (map (λ seat. read_prio outputs seat.read) seats)

-- a record's priority, where the greatest of those that wait for it is this
abbrev pub prio_with : List Seat → Kept → ℕ → ℕ
prio_with seats kept waiting =
    max (own_prio_of kept) (max (greatest_read kept.outputs seats) waiting)

-- ---- who waits

abbrev pub number_or_none : Option ℕ → ℕ
number_or_none None = 0
number_or_none (Some n) = n

-- the greatest priority of those that wait for the record
abbrev pub waiting_at : RecordId → List ℕ → ℕ
waiting_at made waiting = number_or_none (slice_get waiting made.0)

abbrev pub files_of : Option Kept → List Output
files_of None = []
files_of (Some kept) = kept.outputs

-- the file, where a record makes it
abbrev pub file_at : FileId → List Kept → Option Output
file_at f records = slice_get (files_of (slice_get records f.rec.0)) f.out

-- a record makes the file, and it is neither in memory nor saved
abbrev pub is_lacking : Option Output → Bool
is_lacking None = false
is_lacking (Some output) = not (is_here output)

-- one of this priority waits for the file, where it is lacking
abbrev pub with_raised : ℕ → List Kept → FileId → List ℕ → List ℕ
with_raised prio records f waiting =
    if is_lacking (file_at f records) then changed_at f.rec.0 (max prio) waiting else waiting

abbrev pub all_raised : ℕ → List Kept → List FileId → List ℕ → List ℕ
all_raised prio records [] waiting = waiting
all_raised prio records (f ∷ fs) waiting =
    all_raised prio records fs (with_raised prio records f waiting)

-- what waits once this record's priority is known
abbrev pub waiting_after : (RecordId → Bool) → List Seat → List Kept → Kept → ℕ → List ℕ → List ℕ
waiting_after is_task seats records kept prio waiting =
    if is_task kept.made && not (is_running_at seats kept.made)
    then all_raised prio records kept.inputs waiting
    else waiting

-- ---- the walk from the last record to the first

abbrev pub none_waiting : {A : Type 0} → List A → List ℕ
none_waiting xs = map (λ x. 0) xs

-- what waits once the priorities of these last records are known
abbrev pub waiting_from : (RecordId → Bool) → List Seat → List Kept → List ℕ → List Kept → List ℕ
waiting_from is_task seats records start [] = start
waiting_from is_task seats records start (kept ∷ later) =
    let waiting = waiting_from is_task seats records start later in
    let prio = prio_with seats kept (waiting_at kept.made waiting) in
    waiting_after is_task seats records kept prio waiting

-- the priority of a record, by those of the later ones
abbrev pub prio_before : (RecordId → Bool) → List Seat → List Kept → List ℕ → Kept → List Kept → ℕ
prio_before is_task seats records start kept later =
    prio_with seats kept (waiting_at kept.made (waiting_from is_task seats records start later))

-- the priority of the first of these records that is of this number
abbrev pub prio_from : (RecordId → Bool) → List Seat → List Kept → List ℕ → RecordId → List Kept → ℕ
prio_from is_task seats records start made [] = 0
prio_from is_task seats records start made (kept ∷ later) =
    if record_same made kept.made
    then prio_before is_task seats records start kept later
    else prio_from is_task seats records start made later

-- the earlier record, unless the later one's priority has its turn before its own
abbrev pub better_choice : (ℕ → ℕ → Bool) → RecordId → ℕ → Option Choice → Choice
better_choice before made prio None = record { made = made; prio = prio }
better_choice before made prio (Some later) =
    if before later.prio prio then later else record { made = made; prio = prio }

-- the ready one of these records that is run first
abbrev pub choice_from : (before : ℕ → ℕ → Bool) → (is_task is_ready : RecordId → Bool) →
    List Seat → List Kept → List ℕ → List Kept → Option Choice
choice_from before is_task is_ready seats records start [] = None
choice_from before is_task is_ready seats records start (kept ∷ later) =
    let best = choice_from before is_task is_ready seats records start later in
    let prio = prio_before is_task seats records start kept later in
    if is_ready kept.made then Some (better_choice before kept.made prio best) else best

-- the ready record that is run first, by what a past says of tasks and turns
abbrev pub choice_in : OrderRule → Past → List Seat → List Kept → List ℕ → Option Choice
choice_in rule past seats records start =
    let before = has_turn_before rule past in
    choice_from before (is_task past) (is_ready past) seats records start records
