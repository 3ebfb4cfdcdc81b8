use Rattle.std.proofs.Common.{rules, ◌∙◌, ap, slice_set}
use Rattle.tl_edge.specs.Data.{changed}
use Rattle.tl_steps.proofs.Lists.{changed_all, changed_first, changed_next}
use Rattle.tl_edge.proofs.outputs.change_outputs.Goals as goal

pub loop-output-preserved : goal.loop-output-preserved
loop-output-preserved c =
    ap (λ x. slice_set c.loop-output.outputs c.loop-output.output-index x) c.changed.ensures
    ∙ changed_next c.args.outputs.now c.loop-output.outputs c.loop-output.output-index _ (changed c.args.change) c.loop-output.invariant (search rules)

pub returns : goal.returns
returns c =
    c.loop-output.invariant
    ∙ ap (λ k. changed_first k (changed c.args.change) c.args.outputs.now) (search rules)
    ∙ changed_all c.args.outputs.now (changed c.args.change)
