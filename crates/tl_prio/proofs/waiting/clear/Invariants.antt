use Rattle.std.proofs.Common.{◌≡◌}
use Rattle.tl_steps.proofs.Lists.{changed_first}
use Rattle.tl_prio.proofs.waiting.clear.Given as goal

abbrev pub invariant-loop-prio : goal.invariant-loop-prio
invariant-loop-prio l = l.waiting ≡ changed_first l.prio-index (λ n. 0) l.initial.waiting
