use Rattle.std.proofs.Common.{rules, ◌∙◌, ap, map, slice_set}
use Rattle.tl_edge.specs.Data.{changed}
use Rattle.tl_steps.proofs.Lists.{changed_all, changed_first, changed_next}
use Rattle.tl_edge.proofs.outputs.change_rows.Goals as goal

pub loop-outputs-preserved : goal.loop-outputs-preserved
loop-outputs-preserved c =
    ap (λ x. slice_set c.loop-outputs.files c.loop-outputs.outputs-index x) c.change_all.ensures
    ∙ changed_next c.args.files.now c.loop-outputs.files c.loop-outputs.outputs-index c.outputs-item.result (map (changed c.args.change)) c.loop-outputs.invariant (search rules)

pub returns : goal.returns
returns c =
    c.loop-outputs.invariant
    ∙ ap (λ k. changed_first k (map (changed c.args.change)) c.args.files.now) (search rules)
    ∙ changed_all c.args.files.now (map (changed c.args.change))
