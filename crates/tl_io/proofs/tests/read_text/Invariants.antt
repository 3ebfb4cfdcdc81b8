use Rattle.std.proofs.Common.{◌≡◌, ◌≤◌, ◌-◌, length}
use Rattle.std.specs.Io.KnownBytes.{Consumes}
use Rattle.tl_io.specs.Counts.{more}
use Rattle.tl_io.proofs.tests.read_text.Given as goal

abbrev pub invariant-pieces : goal.invariant-pieces
invariant-pieces g l = let source = g.S.Source in record {
  told : Consumes (source.left l.initial.source) (source.left l.source) l.text.items;
  counted : source.given l.source ≡ more (source.given l.initial.source) (length l.text.items);
  faults : source.faults l.initial.source ≤ source.faults l.source;
  short : length l.text.items ≤ 107;
}

abbrev pub decreases-pieces : goal.decreases-pieces
decreases-pieces g l = 107 - length l.text.items
