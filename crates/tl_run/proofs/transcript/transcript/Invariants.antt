use Rattle.std.proofs.Common.{◌≡◌}
use Rattle.tl_run.specs.Plays.{texts_below}
use Rattle.tl_run.proofs.transcript.transcript.Given as goal

abbrev pub invariant-loop-client : goal.invariant-loop-client
invariant-loop-client l = l.text.items ≡ texts_below l.client l.fn.printed
