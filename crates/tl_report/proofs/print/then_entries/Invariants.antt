use Rattle.std.proofs.Common.{◌≡◌, ◌∷◌, ◌++◌, length, take}
use Rattle.std.specs.List.{flat_map}
use Rattle.tl_report.specs.Words.{entry_word}
use Rattle.tl_report.proofs.print.then_entries.Given as goal

abbrev pub invariant-loop-entry : goal.invariant-loop-entry
invariant-loop-entry l = record {
  printed : l.out.items ≡ l.fn.out.items ++ flat_map (λ entry. 0x20 ∷ entry_word entry) (take l.entry-index l.entries);
  kept : take (length l.fn.out.items) l.out.items ≡ l.fn.out.items;
}
