-- How what is kept stands for a past.
use Rattle.std.specs.Prelude.{◌≡◌, List, [], ◌∷◌, length, map, Some}
use Rattle.tl_types.specs.declared.actor.Actor.{Actor}
use Rattle.tl_types.specs.declared.file_id.FileId.{FileId}
use Rattle.tl_model.specs.declared.header.Header.{Header}
use Rattle.tl_model.specs.declared.record.Record.{Record}
use Rattle.tl_model.specs.Past.{Past}
use Rattle.tl_model.specs.History.{inputs_of, is_named, outputs_of, records}
use Rattle.tl_model.specs.Actors.{actors, open_save}
use Rattle.tl_model.specs.Residency.{is_saved, place, reads}
use Rattle.tl_model.specs.Checkpoints.{is_leaf, last_done}
use Rattle.tl_edge.specs.declared.save.Save.{Save}
use Rattle.tl_edge.specs.declared.output.Output.{Output}
use Rattle.tl_edge.specs.declared.kept.Kept.{Kept}
use Rattle.tl_edge.specs.Data.{EdgeData, new_output}

-- ---- the past

abbrev pub output_of : Past → FileId → Output
output_of past f = record {
  file = f;
  place = place past f;
  is_named = is_named past f;
  is_saved = is_saved past f;
  is_leaf = is_leaf past f;
  reads = reads past f;
  last_done = last_done past f.rec;
}

abbrev pub outputs_in : Past → Record → List Output
outputs_in past r = map (output_of past) (outputs_of r)

abbrev pub files_in : Past → List Record → List (List Output)
files_in past rs = map (outputs_in past) rs

abbrev pub save_of : Past → Actor → Save
save_of past actor = record { actor = actor; file = open_save past actor }

-- The data stand for a past: they have the inputs of each accepted record, what became of each file, the save that each
-- actor has open, the number of events, and the header's number of reads.
pub record StandsFor (header : Header) (edge : EdgeData) (past : Past) : Type 0 where
  pub inputs : edge.inputs ≡ map inputs_of (records past)
  pub files : edge.files ≡ files_in past (records past)
  pub saves : edge.saves ≡ map (save_of past) actors
  pub count : edge.count ≡ length past
  pub hot : edge.hot ≡ header.hot

-- ---- room

-- what is kept of a record when it is accepted
abbrev pub kept_of : Record → Kept
kept_of r = record { inputs = inputs_of r; outputs = map new_output (outputs_of r) }

-- there is a place for this record
abbrev pub HasRoom : EdgeData → Record → Type 0
HasRoom edge r = edge.next ≡ Some (kept_of r)

abbrev pub HasRoomForAll : EdgeData → List Record → Type 0
HasRoomForAll edge [] = Unit {0}
HasRoomForAll edge (r ∷ rs) = HasRoom edge r
