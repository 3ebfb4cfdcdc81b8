use Rattle.std.proofs.Common.{◌≡◌}
use Rattle.tl_model.specs.Past.{act_with}
use Rattle.tl_steps.proofs.Lists.{changed_first}
use Rattle.tl_plan.specs.Data.{outputs_after}
use Rattle.tl_plan.proofs.outputs.note_files.Given as goal

abbrev pub invariant-loop-outputs : goal.invariant-loop-outputs
invariant-loop-outputs g l = l.files ≡ changed_first l.outputs-index (outputs_after (act_with (λ _. tt) l.act)) l.initial.files
