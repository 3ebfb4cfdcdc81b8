-- The records ever added, some of them removed.
use Rattle.std.specs.Prelude.{ℕ, Bool, List, [], Option, Some, None, option_and_then, slice_get, slice_set, count_by}
use Rattle.std.specs.List.{list_any}
use Rattle.std.specs.Option.{option_map_or}
use Rattle.tl_types.specs.Same.{file_same}
use Rattle.tl_types.specs.declared.file_id.FileId.{FileId}
use Rattle.tl_model.specs.declared.record.Record.{Record}
use Rattle.tl_model.specs.declared.record.Record.TheVariants.{Put, Job}
use Rattle.tl_model.specs.History.{inputs_of}
use Rattle.tl_lineage.specs.declared.slot.Slot.{Slot}
use Rattle.tl_lineage.specs.declared.slot.Slot.TheVariants.{Kept, PutRemoved, JobRemoved}

-- a slot for each record ever added, by number, and for how many more there is a place
pub record Lineage : Type 0 where
  pub slots : List Slot
  pub spare : ℕ

-- the record, where it wasn't removed
abbrev pub kept_in : Slot → Option Record
kept_in (Kept kept) = Some kept
kept_in PutRemoved = None
kept_in (JobRemoved inputs) = None

-- the files that the record read
abbrev pub inputs_in : Slot → List FileId
inputs_in (Kept kept) = inputs_of kept
inputs_in PutRemoved = []
inputs_in (JobRemoved inputs) = inputs

-- whether the record read the file
abbrev pub has_read : FileId → Slot → Bool
has_read f slot = list_any (file_same f) (inputs_in slot)

-- the record of a number, where one was added and not removed
abbrev pub record_of : ℕ → List Slot → Option Record
record_of n slots = option_and_then kept_in (slice_get slots n)

-- how many records have read the file
abbrev pub reader_count : FileId → List Slot → ℕ
reader_count f slots = count_by (has_read f) slots

-- what is left of a record that is removed
abbrev pub left_of : Record → Slot
left_of (Put id) = PutRemoved
left_of (Job id core prio inputs outputs) = JobRemoved inputs

-- a slot after its record is removed
abbrev pub removed : Slot → Slot
removed (Kept kept) = left_of kept
removed PutRemoved = PutRemoved
removed (JobRemoved inputs) = JobRemoved inputs

-- the slots after the record of a number is removed, where there is one
abbrev pub with_removed : ℕ → List Slot → List Slot
with_removed n slots = option_map_or (λ slot. slice_set slots n (removed slot)) (slice_get slots n) slots
