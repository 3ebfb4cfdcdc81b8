-- What a job hands to its program.
use Rattle.std.specs.Prelude.{ℕ, List, map}
use Rattle.tl_eval.specs.declared.material.Entry.{Entry}
use Rattle.tl_eval.specs.declared.material.Material.{Material}
use Rattle.tl_lang.specs.Meaning.{Given}

-- a key and its value
abbrev pub entry_of : Entry → List ℕ × List ℕ
entry_of entry = (entry.key.now, entry.value)

abbrev pub given_of : Material → Given
given_of m = record { inputs = m.inputs.now; conf = map entry_of m.entries.now }
