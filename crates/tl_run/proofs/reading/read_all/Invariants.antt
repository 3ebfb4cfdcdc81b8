use Rattle.std.proofs.Common.{◌≤◌, ◌-◌, vec_len, length}
use Rattle.std.specs.Io.KnownBytes.{Consumes}
use Rattle.tl_run.specs.Streams.{RisesBy}
use Rattle.tl_run.proofs.reading.read_all.Given as goal

abbrev pub invariant-pieces : goal.invariant-pieces
invariant-pieces g l =
    let source = g.I.Source in
    record {
      consumed : Consumes (source.left l.fn.input) (source.left l.input) l.text.items;
      given : RisesBy (source.given l.fn.input) (source.given l.input) (length l.text.items);
      never_falls : source.faults l.fn.input ≤ source.faults l.input;
      short : vec_len l.text ≤ 16777217;
    }

abbrev pub decreases-pieces : goal.decreases-pieces
decreases-pieces g l = 16777217 - vec_len l.text
