use Rattle.std.proofs.Common.{◌+◌}
use Rattle.tl_eval.specs.Running.{GoesOnWith, has_entered}
use Rattle.tl_eval.proofs.machine.run.Given as goal

abbrev pub invariant-loop : goal.invariant-loop
invariant-loop l = GoesOnWith (has_entered l.fn.running + l.counter) l.fn.running l.running
