-- What the plan keeps, and what one event and the tables make of it.
use Rattle.std.specs.Prelude.{ℕ, suc, Bool, true, false, ◌&&◌, ◌||◌, not, List, [], ◌∷◌, ◌++◌, map, slice_get, slice_set, Option, Some, None, is_some, if◌then◌else◌}
use Rattle.std.specs.List.{list_all, list_any}
use Rattle.tl_types.specs.declared.file_id.FileId.{FileId}
use Rattle.tl_types.specs.declared.worker_id.WorkerId.{WorkerId}
use Rattle.tl_model.specs.declared.event.Act.{Act}
use Rattle.tl_model.specs.Past.{Plain}
use Rattle.tl_model.specs.Actors.{OpenRead}
use Rattle.tl_model.specs.Residency.{does}
use Rattle.tl_steps.specs.declared.seat.Seat.{Seat}
use Rattle.tl_steps.specs.Steps.{changed_at, is_read_at, is_running_at, left_room, next_of, place_now, saves_now, seat_after}
use Rattle.tl_plan.specs.declared.output.Output.{Output}
use Rattle.tl_plan.specs.declared.job.Job.{Job}
use Rattle.tl_plan.specs.declared.kept.Kept.{Kept}

-- ---- files

abbrev pub new_output : FileId → Output
new_output f = record { file = f; place = None; is_saved = false; is_awaited = false }

abbrev pub awaited : Output → Output
awaited output = record { file = output.file; place = output.place; is_saved = output.is_saved; is_awaited = true }

abbrev pub is_here : Output → Bool
is_here output = is_some output.place || output.is_saved

-- wanted, and neither in memory nor saved
abbrev pub is_lacking : List Seat → Output → Bool
is_lacking seats output = (is_read_at seats output.file || output.is_awaited) && not (is_here output)

-- a file after an act, before the tables are made
abbrev pub output_after : Act (Unit {0}) → Output → Output
output_after act before = record {
  file = before.file;
  place = place_now act before.file before.place;
  is_saved = saves_now act before.file || before.is_saved;
  is_awaited = false;
}

abbrev pub outputs_after : Act (Unit {0}) → List Output → List Output
outputs_after act outputs = map (output_after act) outputs

-- ---- jobs

-- a record after an act, before the tables are made
abbrev pub job_after : Act (Unit {0}) → Job → Job
job_after act before = record {
  made = before.made;
  is_job = before.is_job;
  inputs = before.inputs;
  was_done = does before.made act || before.was_done;
  is_task = false;
}

-- ---- the tables

abbrev pub with_task : Bool → Job → Job
with_task is_task job = record { made = job.made; is_job = job.is_job; inputs = job.inputs; was_done = job.was_done; is_task = is_task }

-- a job is a task where it was never done, or where an output is wanted and not available
abbrev pub is_task_now : List Seat → Job → List Output → Bool
is_task_now seats job outputs = job.is_job && (not job.was_done || list_any (is_lacking seats) outputs)

-- a task has the file as input
abbrev pub with_awaited : FileId → List (List Output) → List (List Output)
with_awaited f files = changed_at f.rec.0 (changed_at f.out awaited) files

abbrev pub all_awaited : List FileId → List (List Output) → List (List Output)
all_awaited [] files = files
all_awaited (f ∷ fs) files = all_awaited fs (with_awaited f files)

abbrev pub row_or_none : Option (List Output) → List Output
row_or_none None = []
row_or_none (Some outputs) = outputs

-- the outputs of the record of a number
abbrev pub row_at : ℕ → List (List Output) → List Output
row_at n files = row_or_none (slice_get files n)

-- the files once it is known whether a job is a task
abbrev pub files_after : List Seat → Job → Bool → List (List Output) → List (List Output)
files_after seats job is_task files = if is_task && not (is_running_at seats job.made) then all_awaited job.inputs files else files

-- which of these records, the first of which has number n, are tasks, and which files are awaited by them
abbrev pub tables_from : List Seat → ℕ → List Job → List (List Output) → List Job × List (List Output)
tables_from seats n [] files = ([], files)
tables_from seats n (job ∷ jobs) files =
    let later = tables_from seats (suc n) jobs files in
    let is_task = is_task_now seats job (row_at n later.1) in
    (with_task is_task job ∷ later.0, files_after seats job is_task later.1)

abbrev pub step_on : List Seat → ℕ → ℕ → Option Job → List Job × List (List Output) → List Job × List (List Output)
step_on seats n i None tables = tables
step_on seats n i (Some job) tables =
    let is_task = is_task_now seats job (row_at n tables.1) in
    (slice_set tables.0 i (with_task is_task job), files_after seats job is_task tables.1)

-- the tables once the record of number n, which stands at place i, is added to those of the later ones
abbrev pub step_at : List Seat → ℕ → ℕ → List Job × List (List Output) → List Job × List (List Output)
step_at seats n i tables = step_on seats n i (slice_get tables.0 i) tables

abbrev pub table_step : List Seat → ℕ → List Job × List (List Output) → List Job × List (List Output)
table_step seats n tables = step_at seats n n tables

-- ---- one event

abbrev pub with_job : Option Kept → List Job → List Job
with_job None jobs = jobs
with_job (Some kept) jobs = jobs ++ kept.job ∷ []

abbrev pub with_files : Option Kept → List (List Output) → List (List Output)
with_files None files = files
with_files (Some kept) files = files ++ kept.outputs ∷ []

-- The accepted records, and the files of each, both by number; what each actor has open; and the record for which there is
-- a place.
pub record PlanData : Type 0 where
  pub jobs : List Job
  pub files : List (List Output)
  pub seats : List Seat
  pub next : Option Kept

-- the tables of these records
abbrev pub tables_of : List Seat → Option Kept → List Job → List (List Output) → List Job × List (List Output)
tables_of seats next jobs files = tables_from seats 0 (with_job next jobs) (with_files next files)

-- what is kept after an event
abbrev pub plan_after : Plain → PlanData → PlanData
plan_after e plan =
    let seats = map (seat_after e) plan.seats in
    let tables = tables_of seats (next_of e.act plan.next) (map (job_after e.act) plan.jobs) (map (outputs_after e.act) plan.files) in
    record { jobs = tables.0; files = tables.1; seats = seats; next = left_room e.act plan.next }

-- ---- what is looked up

abbrev pub read_of : Option Seat → Option OpenRead
read_of None = None
read_of (Some seat) = seat.read

abbrev pub task_of : Option Job → Bool
task_of None = false
task_of (Some job) = job.is_task

-- the file, where a record makes it
abbrev pub file_at : FileId → List (List Output) → Option Output
file_at f files = slice_get (row_at f.rec.0 files) f.out

abbrev pub place_at : Option Output → Option WorkerId
place_at None = None
place_at (Some output) = output.place

abbrev pub here_at : Option Output → Bool
here_at None = false
here_at (Some output) = is_here output

abbrev pub awaited_at : Option Output → Bool
awaited_at None = false
awaited_at (Some output) = output.is_awaited

abbrev pub is_here_in : List (List Output) → FileId → Bool
is_here_in files f = here_at (file_at f files)

-- a task that isn't running and all whose inputs are in memory or saved
abbrev pub ready_of : List Seat → List (List Output) → Option Job → Bool
ready_of seats files None = false
ready_of seats files (Some job) = job.is_task && not (is_running_at seats job.made) && list_all (is_here_in files) job.inputs
