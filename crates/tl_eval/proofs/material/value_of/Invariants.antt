use Rattle.std.proofs.Common.{◌≡◌, map, drop}
use Rattle.tl_lang.specs.Names.{visible}
use Rattle.tl_eval.specs.Materials.{entry_of}
use Rattle.tl_eval.proofs.material.value_of.Given as goal

abbrev pub invariant-loop-entry : goal.invariant-loop-entry
invariant-loop-entry l = visible l.key (map entry_of (drop l.entry-index l.entries)) ≡ visible l.key (map entry_of l.entries)
