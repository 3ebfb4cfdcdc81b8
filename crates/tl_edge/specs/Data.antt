-- What is kept to choose the file that is saved next, what one event makes of it, and the choice.
use Rattle.std.specs.Prelude.{ℕ, ◌+◌, min, nat_lt, nat_le, Bool, true, false, ◌&&◌, not, List, [], ◌∷◌, ◌++◌, map, slice_get, Option, Some, None, is_some, if◌then◌else◌}
use Rattle.std.specs.List.{list_any}
use Rattle.tl_types.specs.Same.{actor_same, file_same}
use Rattle.tl_types.specs.declared.actor.Actor.{Actor}
use Rattle.tl_types.specs.declared.file_id.FileId.{FileId}
use Rattle.tl_types.specs.declared.record_id.RecordId.{RecordId}
use Rattle.tl_model.specs.declared.event.Act.{Act}
use Rattle.tl_model.specs.declared.event.Act.TheVariants.{Served, Claim, Done, Lose, Free, Drop, Load, Saved}
use Rattle.tl_model.specs.Past.{Plain}
use Rattle.tl_model.specs.Tables.{better}
use Rattle.tl_model.specs.Actors.{save_after, saves_file}
use Rattle.tl_model.specs.Residency.{is_at}
use Rattle.tl_steps.specs.Steps.{changed_at, left_room, next_of, place_after_done}
use Rattle.tl_edge.specs.declared.change.Change.{Change}
use Rattle.tl_edge.specs.declared.change.Change.TheVariants.{Bring, Make, Take, TakeFrom, Secure, CountRead, Unname, TakeUp}
use Rattle.tl_edge.specs.declared.save.Save.{Save}
use Rattle.tl_edge.specs.declared.output.Output.{Output}
use Rattle.tl_edge.specs.declared.kept.Kept.{Kept}

-- The inputs and the files of each accepted record, both by number; the save that each actor has open; how many events
-- were noted; how many reads make a file hot; and the record for which there is a place.
pub record EdgeData : Type 0 where
  pub inputs : List (List FileId)
  pub files : List (List Output)
  pub saves : List Save
  pub count : ℕ
  pub hot : ℕ
  pub next : Option Kept

-- ---- saves

abbrev pub new_save : Actor → Save
new_save actor = record { actor = actor; file = None }

abbrev pub is_being_saved_in : List Save → FileId → Bool
is_being_saved_in saves f = list_any (λ save. saves_file f save.file) saves

abbrev pub save_step : Plain → Actor → Option FileId → Option FileId
save_step e actor before = if actor_same actor e.actor then save_after e.act before else before

-- an actor's save after an event
abbrev pub save_next : Plain → Save → Save
save_next e before = record { actor = before.actor; file = save_step e before.actor before.file }

-- ---- records

-- the number after this one, as long as there is one
abbrev pub next_number : ℕ → ℕ
next_number n = min (n + 1) 18446744073709551615

abbrev pub is_in : FileId → List FileId → Bool
is_in f fs = list_any (file_same f) fs

-- ---- files

-- a file whose record is just accepted
abbrev pub new_output : FileId → Output
new_output f = record { file = f; place = None; is_named = true; is_saved = false; is_leaf = true; reads = 0; last_done = 0 }

-- a file after a change
abbrev pub changed : Change → Output → Output
changed (Bring worker) o = record {
  file = o.file;
  place = Some worker;
  is_named = o.is_named;
  is_saved = o.is_saved;
  is_leaf = o.is_leaf;
  reads = o.reads;
  last_done = o.last_done;
}
changed (Make worker at) o = record {
  file = o.file;
  place = place_after_done true worker o.place;
  is_named = o.is_named;
  is_saved = o.is_saved;
  is_leaf = o.is_leaf;
  reads = o.reads;
  last_done = at;
}
changed Take o = record {
  file = o.file;
  place = None;
  is_named = o.is_named;
  is_saved = o.is_saved;
  is_leaf = o.is_leaf;
  reads = o.reads;
  last_done = o.last_done;
}
changed (TakeFrom worker) o = record {
  file = o.file;
  place = if is_at worker o.place then None else o.place;
  is_named = o.is_named;
  is_saved = o.is_saved;
  is_leaf = o.is_leaf;
  reads = o.reads;
  last_done = o.last_done;
}
changed Secure o = record {
  file = o.file;
  place = o.place;
  is_named = o.is_named;
  is_saved = true;
  is_leaf = o.is_leaf;
  reads = o.reads;
  last_done = o.last_done;
}
changed CountRead o = record {
  file = o.file;
  place = o.place;
  is_named = o.is_named;
  is_saved = o.is_saved;
  is_leaf = o.is_leaf;
  reads = next_number o.reads;
  last_done = o.last_done;
}
changed Unname o = record {
  file = o.file;
  place = o.place;
  is_named = false;
  is_saved = o.is_saved;
  is_leaf = o.is_leaf;
  reads = o.reads;
  last_done = o.last_done;
}
changed TakeUp o = record {
  file = o.file;
  place = o.place;
  is_named = o.is_named;
  is_saved = o.is_saved;
  is_leaf = false;
  reads = o.reads;
  last_done = o.last_done;
}

-- a change of one file
abbrev pub with_file : Change → FileId → List (List Output) → List (List Output)
with_file change f files = changed_at f.rec.0 (changed_at f.out (changed change)) files

-- of all files of one record
abbrev pub with_row : Change → RecordId → List (List Output) → List (List Output)
with_row change made files = changed_at made.0 (map (changed change)) files

-- of all files
abbrev pub with_rows : Change → List (List Output) → List (List Output)
with_rows change files = map (map (changed change)) files

-- of each of these files, once
abbrev pub with_each : Change → List FileId → List (List Output) → List (List Output)
with_each change [] files = files
with_each change (f ∷ fs) files = with_each change fs (if is_in f fs then files else with_file change f files)

-- ---- one event

abbrev pub unnamed : Option FileId → List (List Output) → List (List Output)
unnamed None files = files
unnamed (Some lost) files = with_file Unname lost files

abbrev pub read_at : Option (List FileId) → List (List Output) → List (List Output)
read_at None files = files
read_at (Some inputs) files = with_each CountRead inputs files

-- the files after the act of this place in the journal, but for names and for who has them as input
abbrev pub acted : List (List FileId) → ℕ → Act (Unit {0}) → List (List Output) → List (List Output)
acted inputs at (Served f digest) files = with_file CountRead f files
acted inputs at (Claim worker made) files = read_at (slice_get inputs made.0) files
acted inputs at (Done worker made) files = with_row (Make worker at) made files
acted inputs at (Lose worker) files = with_rows (TakeFrom worker) files
acted inputs at (Free f) files = with_file Take f files
acted inputs at (Drop worker f) files = with_file (TakeFrom worker) f files
acted inputs at (Load worker f) files = with_file (Bring worker) f files
acted inputs at (Saved f size digest) files = with_file Secure f files
acted inputs at _ files = files

abbrev pub files_after : List (List FileId) → ℕ → Option FileId → Act (Unit {0}) → List (List Output) → List (List Output)
files_after inputs at gone act files = acted inputs at act (unnamed gone files)

-- the files once this record has its inputs
abbrev pub taken_up : Option Kept → List (List Output) → List (List Output)
taken_up None files = files
taken_up (Some kept) files = with_each TakeUp kept.inputs files

abbrev pub with_inputs : Option Kept → List (List FileId) → List (List FileId)
with_inputs None inputs = inputs
with_inputs (Some kept) inputs = inputs ++ kept.inputs ∷ []

abbrev pub with_files : Option Kept → List (List Output) → List (List Output)
with_files None files = files
with_files (Some kept) files = files ++ kept.outputs ∷ []

-- what is kept after an event that leaves this file without a name
abbrev pub edge_after : Plain → Option FileId → EdgeData → EdgeData
edge_after e gone edge = record {
  inputs = with_inputs (next_of e.act edge.next) edge.inputs;
  files = with_files (next_of e.act edge.next) (taken_up (next_of e.act edge.next) (files_after edge.inputs edge.count gone e.act edge.files));
  saves = map (save_next e) edge.saves;
  count = next_number edge.count;
  hot = edge.hot;
  next = left_room e.act edge.next;
}

-- ---- the choice

-- the first by an order of those that pass a test, before a later one
abbrev pub first_step : {R : Type 0} → (R → Bool) → (R → R → Bool) → R → Option R → Option R
first_step test before x later = if test x then Some (better before x later) else later

abbrev pub first_in : {R : Type 0} → (R → Bool) → (R → R → Bool) → List R → Option R → Option R
first_in test before [] later = later
first_in test before (x ∷ xs) later = first_step test before x (first_in test before xs later)

abbrev pub first_in_all : {R : Type 0} → (R → Bool) → (R → R → Bool) → List (List R) → Option R
first_in_all test before [] = None
first_in_all test before (xs ∷ rows) = first_in test before xs (first_in_all test before rows)

abbrev pub can_save : List Save → Output → Bool
can_save saves output = output.is_named && is_some output.place && not output.is_saved && not (is_being_saved_in saves output.file)

abbrev pub is_saved_leaf : List Save → Output → Bool
is_saved_leaf saves output = can_save saves output && output.is_leaf

abbrev pub is_hot_file : List Save → ℕ → Output → Bool
is_hot_file saves hot output = can_save saves output && not output.is_leaf && nat_le hot output.reads

abbrev pub done_before : Output → Output → Bool
done_before first second = nat_lt first.last_done second.last_done

abbrev pub read_before : Output → Output → Bool
read_before first second = nat_lt second.reads first.reads

abbrev pub better_leaf : List Save → Output → Option Output → Option Output
better_leaf saves output later = first_step (is_saved_leaf saves) done_before output later

abbrev pub first_leaf_in : List Save → List Output → Option Output → Option Output
first_leaf_in saves outputs later = first_in (is_saved_leaf saves) done_before outputs later

abbrev pub first_leaf : List Save → List (List Output) → Option Output
first_leaf saves files = first_in_all (is_saved_leaf saves) done_before files

abbrev pub better_hot : List Save → ℕ → Output → Option Output → Option Output
better_hot saves hot output later = first_step (is_hot_file saves hot) read_before output later

abbrev pub first_hot_in : List Save → ℕ → List Output → Option Output → Option Output
first_hot_in saves hot outputs later = first_in (is_hot_file saves hot) read_before outputs later

abbrev pub first_hot : List Save → ℕ → List (List Output) → Option Output
first_hot saves hot files = first_in_all (is_hot_file saves hot) read_before files

abbrev pub best_at : Option Output → Option FileId
best_at None = None
best_at (Some output) = Some output.file

abbrev pub or_hot : Option Output → Option FileId → Option FileId
or_hot None hot = hot
or_hot (Some leaf) hot = Some leaf.file

-- a leaf, or else a file that is read often
abbrev pub choice : List Save → ℕ → List (List Output) → Option FileId
choice saves hot files = or_hot (first_leaf saves files) (best_at (first_hot saves hot files))
