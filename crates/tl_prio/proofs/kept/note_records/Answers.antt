use Rattle.std.proofs.Common.{rules, ◌∙◌, ap, slice_set}
use Rattle.tl_model.specs.Past.{act_with}
use Rattle.tl_steps.proofs.Lists.{changed_first, changed_next, changed_all}
use Rattle.tl_prio.specs.Data.{kept_after}
use Rattle.tl_prio.proofs.kept.note_records.Goals as goal

pub loop-kept-preserved : goal.loop-kept-preserved
loop-kept-preserved g c =
    ap (λ x. slice_set c.loop-kept.records c.loop-kept.kept-index x) c.note_record.ensures
    ∙ changed_next c.args.records.now c.loop-kept.records c.loop-kept.kept-index c.kept-item.result (kept_after (act_with (λ _. tt) c.args.act.now)) c.loop-kept.invariant (search rules)

pub returns : goal.returns
returns g c =
    c.loop-kept.invariant
    ∙ ap (λ k. changed_first k (kept_after (act_with (λ _. tt) c.args.act.now)) c.args.records.now) (search rules)
    ∙ changed_all c.args.records.now (kept_after (act_with (λ _. tt) c.args.act.now))
