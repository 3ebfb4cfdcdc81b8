-- Each file that is named, and each input, is an output of an accepted record.
use Rattle.std.specs.Prelude.{◌≡◌, true, List, slice_get}
use Rattle.std.specs.List.{AllByRecursion}
use Rattle.tl_types.specs.declared.file_id.FileId.{FileId}
use Rattle.tl_model.specs.declared.record.Record.{Record}
use Rattle.tl_model.specs.Namespace.{Names, Node, dir, file}
use Rattle.tl_model.specs.History.{inputs_of, has_output}
use Rattle.tl_laws.specs.Order.{EachNode}

-- the file is an output of one of the records
abbrev pub IsOutputOf : List Record → FileId → Type 0
IsOutputOf rs f = has_output (slice_get rs f.rec.0) f.out ≡ true

abbrev pub IsMade : List Record → Node → Type 0
IsMade rs dir = Unit {0}
IsMade rs (file f pinned) = IsOutputOf rs f

abbrev pub HasMadeInputs : List Record → Record → Type 0
HasMadeInputs rs r = AllByRecursion (IsOutputOf rs) (inputs_of r)

-- what is known of a history: its names and its records' inputs are of its records
pub record IsMadeOf (names : Names) (rs : List Record) : Type 0 where
  pub named : EachNode (IsMade rs) names
  pub inputs : AllByRecursion (HasMadeInputs rs) rs
