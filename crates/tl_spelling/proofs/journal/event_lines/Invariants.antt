use Rattle.std.proofs.Common.{◌≡◌, ◌++◌, length, take}
use Rattle.tl_spelling.specs.Journals.{event_lines, told_by}
use Rattle.tl_spelling.proofs.journal.event_lines.Given as goal

abbrev pub invariant-events : goal.invariant-events
invariant-events g l = record {
  printed : l.out.items ++ event_lines (told_by l.left l.rest) ≡ l.fn.out.items ++ event_lines (told_by l.fn.sources l.fn.events);
  kept : take (length l.fn.out.items) l.out.items ≡ l.fn.out.items;
}

abbrev pub decreases-events : goal.decreases-events
decreases-events g l = length l.rest
