use Rattle.std.proofs.Common.{◌≡◌, false}
use Rattle.tl_tests_eval.proofs.eval.run.Given as goal

abbrev pub invariant-loop-more : goal.invariant-loop-more
invariant-loop-more l = l.machine.is_answered ≡ false
