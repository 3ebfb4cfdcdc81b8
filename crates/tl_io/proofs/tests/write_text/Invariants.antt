use Rattle.std.proofs.Common.{◌≤◌, ◌-◌, length, take}
use Rattle.std.specs.Io.KnownBytes.{Appends}
use Rattle.tl_io.proofs.tests.write_text.Given as goal

abbrev pub invariant-pieces : goal.invariant-pieces
invariant-pieces g l = let sink = g.O.Sink in record {
  told : Appends (sink.held l.initial.sink) (sink.held l.sink) (take l.at l.text);
  faults : sink.faults l.initial.sink ≤ sink.faults l.sink;
  within : l.at ≤ length l.text;
}

abbrev pub decreases-pieces : goal.decreases-pieces
decreases-pieces g l = length l.text - l.at
