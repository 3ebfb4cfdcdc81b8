-- Which records are needed, and which files can be had again.
use Rattle.std.specs.Prelude.{Bool, false, ◌&&◌, ◌||◌, not, filter, Option, option_map}
use Rattle.std.specs.List.{list_any, list_all}
use Rattle.tl_types.specs.declared.file_id.FileId.{FileId}
use Rattle.tl_types.specs.declared.record_id.RecordId.{RecordId}
use Rattle.tl_types.specs.Same.{file_same}
use Rattle.tl_model.specs.declared.record.Record.{Record}
use Rattle.tl_model.specs.Past.{Past}
use Rattle.tl_model.specs.Tables.{Table, downward, upward, answer_at, chosen}
use Rattle.tl_model.specs.History.{records, id_of, is_job, inputs_of, outputs_of, has_input, is_named, is_output}
use Rattle.tl_model.specs.Actors.{is_read, is_running}
use Rattle.tl_model.specs.Residency.{is_saved, is_kept}
use Rattle.tl_model.specs.Plan.{has_id, is_task}
use Rattle.tl_model.specs.Eviction.{first_of}

-- an unsaved output that is named, openly read, or an input of a needed record of the table
abbrev pub is_needed_file : Past → Table Record Bool → FileId → Bool
is_needed_file past needs f = not (is_saved past f) && (is_named past f || is_read past f || list_any (has_input f) (chosen needs))

-- a record is needed where it is a task, or is running, or has such an output
abbrev pub needed_among : Past → Table Record Bool → Record → Bool
needed_among past needs r = is_task past (id_of r) || is_running past (id_of r) || list_any (is_needed_file past needs) (outputs_of r)

-- which records are needed, found from the greatest number down
abbrev pub needs : Past → Table Record Bool
needs past = downward (needed_among past) (records past)

abbrev pub is_needed : Past → RecordId → Bool
is_needed past made = answer_at (has_id made) false (needs past)

-- kept and not needed
abbrev pub is_garbage : Past → Record → Bool
is_garbage past r = is_kept past (id_of r) && not (is_needed past (id_of r))

-- the least record that is kept and not needed
abbrev pub garbage : Past → Option RecordId
garbage past = option_map id_of (first_of (filter (is_garbage past) (records past)))

-- ---- reachability

-- the record of the file is in the table, with yes
abbrev pub is_made_by : Past → Table Record Bool → FileId → Bool
is_made_by past makers f = list_any (λ r. is_output past f (id_of r)) (chosen makers)

abbrev pub is_reachable_by : Past → Table Record Bool → FileId → Bool
is_reachable_by past makers f = is_saved past f || is_made_by past makers f

-- a kept job all whose inputs are reachable
abbrev pub can_make : Past → Table Record Bool → Record → Bool
can_make past makers r = is_kept past (id_of r) && is_job r && list_all (is_reachable_by past makers) (inputs_of r)

-- which records can make their outputs again, found from the least number up
abbrev pub makers : Past → Table Record Bool
makers past = upward (can_make past) (records past)

-- a file is reachable where it is saved or its record can make it again
abbrev pub is_reachable : Past → FileId → Bool
is_reachable past f = is_reachable_by past (makers past) f

-- a task, or running
abbrev pub is_live : Past → Record → Bool
is_live past r = is_task past (id_of r) || is_running past (id_of r)

-- an input of the record, or one of its outputs
abbrev pub is_end_of : FileId → Record → Bool
is_end_of f r = has_input f r || list_any (file_same f) (outputs_of r)

-- the named files, the openly read ones, and the inputs and outputs of tasks and of running records
abbrev pub is_root : Past → FileId → Bool
is_root past f = is_named past f || is_read past f || list_any (λ r. is_end_of f r && is_live past r) (records past)
