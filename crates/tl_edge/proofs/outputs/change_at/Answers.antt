use Rattle.std.proofs.Common.{◌∙◌, ap, slice_set}
use Rattle.tl_edge.specs.Data.{changed}
use Rattle.tl_steps.proofs.Lists.{set_changed, unchanged_past}
use Rattle.tl_edge.proofs.outputs.change_at.Goals as goal

pub returns-then-at-outputs : goal.returns-then-at-outputs
returns-then-at-outputs c =
    ap (λ x. slice_set c.args.outputs.now c.args.at x) c.changed.ensures ∙ set_changed c.args.outputs.now c.args.at _ (changed c.args.change)

pub returns-else-at-outputs : goal.returns-else-at-outputs
returns-else-at-outputs c = unchanged_past c.args.outputs.now c.args.at (changed c.args.change) c.if-at-outputs.false
