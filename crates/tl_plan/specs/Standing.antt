-- How what the plan keeps stands for a past.
use Rattle.std.specs.Prelude.{◌≡◌, Bool, false, List, [], ◌∷◌, map, Some}
use Rattle.tl_types.specs.declared.file_id.FileId.{FileId}
use Rattle.tl_model.specs.declared.record.Record.{Record}
use Rattle.tl_model.specs.Past.{Past}
use Rattle.tl_model.specs.History.{id_of, inputs_of, is_job, outputs_of, records}
use Rattle.tl_model.specs.Actors.{actors}
use Rattle.tl_model.specs.Residency.{is_saved, place, was_done}
use Rattle.tl_model.specs.Plan.{is_awaited, tasks}
use Rattle.tl_steps.specs.Steps.{seat_of}
use Rattle.tl_steps.specs.Within.{IsWithin}
use Rattle.tl_plan.specs.declared.job.Job.{Job}
use Rattle.tl_plan.specs.declared.kept.Kept.{Kept}
use Rattle.tl_plan.specs.declared.output.Output.{Output}
use Rattle.tl_plan.specs.Data.{PlanData, new_output}

-- ---- the past

-- a record of a table of tasks, with its answer
abbrev pub job_in : Past → Record × Bool → Job
job_in past entry = record {
  made = id_of entry.0;
  is_job = is_job entry.0;
  inputs = inputs_of entry.0;
  was_done = was_done past (id_of entry.0);
  is_task = entry.1;
}

-- a file, and whether it is awaited
abbrev pub output_with : Past → (FileId → Bool) → FileId → Output
output_with past awaits f = record { file = f; place = place past f; is_saved = is_saved past f; is_awaited = awaits f }

abbrev pub outputs_with : Past → (FileId → Bool) → Record → List Output
outputs_with past awaits r = map (output_with past awaits) (outputs_of r)

abbrev pub files_with : Past → (FileId → Bool) → List Record → List (List Output)
files_with past awaits rs = map (outputs_with past awaits) rs

-- The data stand for a past: they have each accepted record with whether it was done and whether it is a task, each file with
-- where it is, whether it is saved and whether a task that isn't running has it as input, and what each actor has open.
pub record StandsFor (plan : PlanData) (past : Past) : Type 0 where
  pub jobs : plan.jobs ≡ map (job_in past) (tasks past)
  pub files : plan.files ≡ files_with past (is_awaited past (tasks past)) (records past)
  pub seats : plan.seats ≡ map (seat_of past) actors
  pub within : IsWithin past

-- ---- room

-- a record as it is when it is accepted
abbrev pub kept_of : Record → Kept
kept_of r = record {
  job = record { made = id_of r; is_job = is_job r; inputs = inputs_of r; was_done = false; is_task = false };
  outputs = map new_output (outputs_of r);
}

-- there is a place for this record
abbrev pub HasRoom : PlanData → Record → Type 0
HasRoom plan r = plan.next ≡ Some (kept_of r)

abbrev pub HasRoomForAll : PlanData → List Record → Type 0
HasRoomForAll plan [] = Unit {0}
HasRoomForAll plan (r ∷ rs) = HasRoom plan r
