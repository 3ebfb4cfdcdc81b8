-- What is kept to choose the record that is let go, what one event makes of it, and the choice.
use Rattle.std.specs.Prelude.{ℕ, zero, suc, nat_lt, Bool, true, false, ◌&&◌, ◌||◌, not, List, [], ◌∷◌, ◌++◌, length, map, slice_get, slice_set, Option, Some, None, if◌then◌else◌}
use Rattle.std.specs.List.{list_any}
use Rattle.tl_types.specs.Same.{file_same}
use Rattle.tl_types.specs.declared.file_id.FileId.{FileId}
use Rattle.tl_types.specs.declared.record_id.RecordId.{RecordId}
use Rattle.tl_model.specs.declared.event.Act.{Act}
use Rattle.tl_model.specs.declared.event.Act.TheVariants.{Saved, Collect}
use Rattle.tl_model.specs.Past.{Plain}
use Rattle.tl_model.specs.Residency.{collects}
use Rattle.tl_steps.specs.declared.seat.Seat.{Seat}
use Rattle.tl_steps.specs.Steps.{changed_at, is_gone, is_read_at, is_running_at, left_room, next_of, saves_now, seat_after}
use Rattle.tl_gc.specs.declared.output.Output.{Output}
use Rattle.tl_gc.specs.declared.kept.Kept.{Kept}

-- The accepted records with their files, by number; what each actor has open; and the record for which there is a place.
pub record GcData : Type 0 where
  pub kept : List Kept
  pub seats : List Seat
  pub next : Option Kept

-- ---- files

-- a file whose record is just accepted
abbrev pub new_output : FileId → Output
new_output f = record { file = f; is_saved = false; is_named = true }

-- a file after an act that leaves this file without a name
abbrev pub output_after : Act (Unit {0}) → Option FileId → Output → Output
output_after act gone before = record {
  file = before.file;
  is_saved = saves_now act before.file || before.is_saved;
  is_named = before.is_named && not (is_gone gone before.file);
}

abbrev pub outputs_after : Act (Unit {0}) → Option FileId → List Output → List Output
outputs_after act gone outputs = map (output_after act gone) outputs

-- ---- one event

-- a record after an act that leaves this file without a name
abbrev pub kept_after : Act (Unit {0}) → Option FileId → Kept → Kept
kept_after act gone before = record {
  made = before.made;
  inputs = before.inputs;
  outputs = outputs_after act gone before.outputs;
  is_collected = collects before.made act || before.is_collected;
}

abbrev pub maker_of : Option FileId → Option RecordId
maker_of None = None
maker_of (Some f) = Some f.rec

-- the record that an act changes that leaves this file without a name
abbrev pub touched : Act (Unit {0}) → Option FileId → Option RecordId
touched (Saved f size digest) lost = Some f.rec
touched (Collect made) lost = Some made
touched _ lost = maker_of lost

abbrev pub noted_at : Option RecordId → Act (Unit {0}) → Option FileId → List Kept → List Kept
noted_at None act lost kept = kept
noted_at (Some made) act lost kept = changed_at made.0 (kept_after act lost) kept

-- the records after an act that leaves this file without a name
abbrev pub records_after : Act (Unit {0}) → Option FileId → List Kept → List Kept
records_after act gone kept = noted_at (touched act gone) act gone kept

abbrev pub with_kept : Option Kept → List Kept → List Kept
with_kept None kept = kept
with_kept (Some rec) kept = kept ++ rec ∷ []

-- what is kept after an event that leaves this file without a name
abbrev pub gc_after : Plain → Option FileId → GcData → GcData
gc_after e gone gc = record {
  kept = with_kept (next_of e.act gc.next) (records_after e.act gone gc.kept);
  seats = map (seat_after e) gc.seats;
  next = left_room e.act gc.next;
}

-- ---- what is needed

-- unsaved, and named or openly read
abbrev pub is_held : List Seat → Output → Bool
is_held seats output = not output.is_saved && (output.is_named || is_read_at seats output.file)

-- it is this file, and unsaved
abbrev pub is_unsaved : FileId → Output → Bool
is_unsaved f output = file_same output.file f && not output.is_saved

abbrev pub unsaved_at : FileId → Option Kept → Bool
unsaved_at f None = false
unsaved_at f (Some rec) = list_any (is_unsaved f) rec.outputs

-- a record is needed where it is marked, or is running, or has a file that is held
abbrev pub is_needed_now : List Seat → Kept → Bool → Bool
is_needed_now seats rec is_marked = is_marked || is_running_at seats rec.made || list_any (is_held seats) rec.outputs

-- the record before number n that makes the file is marked, where the file is unsaved
abbrev pub with_mark : List Kept → ℕ → FileId → List Bool → List Bool
with_mark kept n f needed = if nat_lt f.rec.0 n && unsaved_at f (slice_get kept f.rec.0) then slice_set needed f.rec.0 true else needed

abbrev pub all_marked : List Kept → ℕ → List FileId → List Bool → List Bool
all_marked kept n [] needed = needed
all_marked kept n (f ∷ fs) needed = all_marked kept n fs (with_mark kept n f needed)

-- the records before number n that the one of this number needs are marked, if it is needed
abbrev pub marked_if : Bool → List Kept → ℕ → Option Kept → List Bool → List Bool
marked_if is_needed kept n None needed = needed
marked_if is_needed kept n (Some rec) needed = if is_needed then all_marked kept n rec.inputs needed else needed

abbrev pub is_marked : Option Bool → Bool
is_marked None = false
is_marked (Some b) = b

abbrev pub decided : List Kept → ℕ → Kept → List Bool → Bool → List Bool
decided kept n rec needed is_needed = marked_if is_needed kept n (Some rec) (slice_set needed n is_needed)

abbrev pub step_on : List Seat → List Kept → ℕ → Option Kept → List Bool → List Bool
step_on seats kept n None needed = needed
step_on seats kept n (Some rec) needed = decided kept n rec needed (is_needed_now seats rec (is_marked (slice_get needed n)))

-- what is marked once it is decided whether the record of a number is needed
abbrev pub table_step : List Seat → List Kept → ℕ → List Bool → List Bool
table_step seats kept n needed = step_on seats kept n (slice_get kept n) needed

-- what is marked once it is decided of the first n records, from the last of them to the first
abbrev pub walked : List Seat → List Kept → ℕ → List Bool → List Bool
walked seats kept zero needed = needed
walked seats kept (suc n) needed = walked seats kept n (table_step seats kept n needed)

-- ---- the choice

-- the first record that was not let go and is not needed
abbrev pub first_free : List Kept → List Bool → Option RecordId
first_free [] needed = None
first_free (rec ∷ kept) [] = None
first_free (rec ∷ kept) (b ∷ needed) = if not rec.is_collected && not b then Some rec.made else first_free kept needed

-- the same, where the tasks are these
abbrev pub found_garbage : List Seat → List Kept → List Bool → Option RecordId
found_garbage seats kept tasks = first_free kept (walked seats kept (length kept) tasks)
