use Rattle.std.proofs.Common.{◌≡◌}
use Rattle.tl_model.specs.Past.{act_with}
use Rattle.tl_steps.proofs.Lists.{changed_first}
use Rattle.tl_prio.specs.Data.{output_after}
use Rattle.tl_prio.proofs.outputs.note_outputs.Given as goal

abbrev pub invariant-loop-output : goal.invariant-loop-output
invariant-loop-output g l = l.outputs ≡ changed_first l.output-index (output_after (act_with (λ _. tt) l.act)) l.initial.outputs
