use Rattle.std.proofs.Common.{◌≡◌}
use Rattle.tl_edge.specs.Data.{changed}
use Rattle.tl_steps.proofs.Lists.{changed_first}
use Rattle.tl_edge.proofs.outputs.change_outputs.Given as goal

abbrev pub invariant-loop-output : goal.invariant-loop-output
invariant-loop-output l = l.outputs ≡ changed_first l.output-index (changed l.change) l.initial.outputs
