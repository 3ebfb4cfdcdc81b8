-- What holds of each node that is named, and that a record's inputs are older than the record.
use Rattle.std.specs.Prelude.{ℕ, ◌<◌, List, length}
use Rattle.std.specs.List.{AllByRecursion}
use Rattle.tl_model.specs.declared.record.Record.{Record}
use Rattle.tl_model.specs.Namespace.{Node, dir, file, Names}
use Rattle.tl_model.specs.History.{id_of, inputs_of}

abbrev pub EachNode : (Node → Type 0) → Names → Type 0
EachNode P names = AllByRecursion (λ entry. P entry.1) names

-- a file of one of the first n records
abbrev pub IsBelow : ℕ → Node → Type 0
IsBelow n dir = Unit {0}
IsBelow n (file f pinned) = f.rec.0 < n

-- each input of the record is of an older record
abbrev pub HasOlderInputs : Record → Type 0
HasOlderInputs r = AllByRecursion (λ f. f.rec.0 < (id_of r).0) (inputs_of r)

-- what is known of a history: its names are of its records, whose inputs are older
pub record IsOrdered (names : Names) (rs : List Record) : Type 0 where
  pub named : EachNode (IsBelow (length rs)) names
  pub older : AllByRecursion HasOlderInputs rs
