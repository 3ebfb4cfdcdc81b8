use Rattle.std.proofs.Common.{◌≡◌, ◌++◌, map}
use Rattle.tl_names.specs.Tables.{children_of, entry_in}
use Rattle.tl_names.proofs.directory.entries_of.Given as goal

abbrev pub invariant-loop-name : goal.invariant-loop-name
invariant-loop-name l = l.entries.items ++ map entry_in (children_of l.name-iterator) ≡ map entry_in (children_of l.children.entries)
