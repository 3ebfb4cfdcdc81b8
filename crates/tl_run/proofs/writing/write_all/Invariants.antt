use Rattle.std.proofs.Common.{◌≤◌, length}
use Rattle.tl_run.specs.Streams.{WritesUpTo}
use Rattle.tl_run.proofs.writing.write_all.Given as goal

abbrev pub invariant-loop-rest : goal.invariant-loop-rest
invariant-loop-rest g l =
    let sink = g.O.Sink in
    record {
      written : WritesUpTo l.text l.rest (sink.held l.fn.output) (sink.held l.output);
      never_falls : sink.faults l.fn.output ≤ sink.faults l.output;
    }

abbrev pub decreases-loop-rest : goal.decreases-loop-rest
decreases-loop-rest g l = length l.rest
