-- How what is kept stands for a past.
use Rattle.std.specs.Prelude.{◌≡◌, false, List, [], ◌∷◌, map, Some}
use Rattle.tl_types.specs.declared.file_id.FileId.{FileId}
use Rattle.tl_model.specs.declared.record.Record.{Record}
use Rattle.tl_model.specs.Past.{Past}
use Rattle.tl_model.specs.History.{id_of, inputs_of, is_named, outputs_of, records}
use Rattle.tl_model.specs.Actors.{actors}
use Rattle.tl_model.specs.Residency.{is_collected, is_saved}
use Rattle.tl_laws.specs.Numbers.{Numbered}
use Rattle.tl_steps.specs.Steps.{seat_of}
use Rattle.tl_gc.specs.declared.kept.Kept.{Kept}
use Rattle.tl_gc.specs.declared.output.Output.{Output}
use Rattle.tl_gc.specs.Data.{GcData, new_output}

-- ---- the past

abbrev pub output_of : Past → FileId → Output
output_of past f = record { file = f; is_saved = is_saved past f; is_named = is_named past f }

abbrev pub kept_in : Past → Record → Kept
kept_in past r = record {
  made = id_of r;
  inputs = inputs_of r;
  outputs = map (output_of past) (outputs_of r);
  is_collected = is_collected past (id_of r);
}

-- The data stand for a past: they have each accepted record with its inputs, whether it was let go, and of each of its files
-- whether it is saved and whether it is named; and what each actor has open.
pub record StandsFor (gc : GcData) (past : Past) : Type 0 where
  pub kept : gc.kept ≡ map (kept_in past) (records past)
  pub seats : gc.seats ≡ map (seat_of past) actors
  pub numbered : Numbered (records past)

-- ---- room

-- a record as it is when it is accepted
abbrev pub kept_of : Record → Kept
kept_of r = record { made = id_of r; inputs = inputs_of r; outputs = map new_output (outputs_of r); is_collected = false }

-- there is a place for this record
abbrev pub HasRoom : GcData → Record → Type 0
HasRoom gc r = gc.next ≡ Some (kept_of r)

abbrev pub HasRoomForAll : GcData → List Record → Type 0
HasRoomForAll gc [] = Unit {0}
HasRoomForAll gc (r ∷ rs) = HasRoom gc r
