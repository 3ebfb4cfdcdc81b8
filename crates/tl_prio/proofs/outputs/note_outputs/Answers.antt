use Rattle.std.proofs.Common.{rules, ◌∙◌, ap, slice_set}
use Rattle.tl_model.specs.Past.{act_with}
use Rattle.tl_steps.proofs.Lists.{changed_first, changed_next, changed_all}
use Rattle.tl_prio.specs.Data.{output_after}
use Rattle.tl_prio.proofs.outputs.note_outputs.Goals as goal

pub loop-output-preserved : goal.loop-output-preserved
loop-output-preserved g c =
    ap (λ x. slice_set c.loop-output.outputs c.loop-output.output-index x) c.output_after.ensures
    ∙ changed_next c.args.outputs.now c.loop-output.outputs c.loop-output.output-index _ (output_after (act_with (λ _. tt) c.args.act.now)) c.loop-output.invariant (search rules)

pub returns : goal.returns
returns g c =
    c.loop-output.invariant
    ∙ ap (λ k. changed_first k (output_after (act_with (λ _. tt) c.args.act.now)) c.args.outputs.now) (search rules)
    ∙ changed_all c.args.outputs.now (output_after (act_with (λ _. tt) c.args.act.now))
