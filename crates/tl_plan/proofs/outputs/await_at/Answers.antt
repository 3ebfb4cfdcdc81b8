use Rattle.std.proofs.Common.{◌∙◌, ap, slice_set}
use Rattle.tl_plan.specs.Data.{awaited}
use Rattle.tl_steps.proofs.Lists.{set_changed, unchanged_past}
use Rattle.tl_plan.proofs.outputs.await_at.Goals as goal

pub returns-then-at-outputs : goal.returns-then-at-outputs
returns-then-at-outputs c =
    ap (λ x. slice_set c.args.outputs.now c.args.at x) c.awaited.ensures ∙ set_changed c.args.outputs.now c.args.at _ awaited

pub returns-else-at-outputs : goal.returns-else-at-outputs
returns-else-at-outputs c = unchanged_past c.args.outputs.now c.args.at awaited c.if-at-outputs.false
