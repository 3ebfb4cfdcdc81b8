-- Records are numbered in order.
use Rattle.std.specs.Prelude.{◌≡◌, ℕ, List, slice_get, Some}
use Rattle.tl_model.specs.declared.record.Record.{Record}
use Rattle.tl_model.specs.History.{id_of}

-- each record has the number of its place
abbrev pub Numbered : List Record → Type 0
Numbered rs = (i : ℕ) (r : Record) → slice_get rs i ≡ Some r → id_of r ≡ record { 0 = i }
