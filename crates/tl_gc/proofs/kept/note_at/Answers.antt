use Rattle.std.proofs.Common.{◌∙◌, ap, slice_set}
use Rattle.tl_model.specs.Past.{act_with}
use Rattle.tl_gc.specs.Data.{kept_after}
use Rattle.tl_steps.proofs.Lists.{set_changed, unchanged_past}
use Rattle.tl_gc.proofs.kept.note_at.Goals as goal

pub returns-then-at-kept : goal.returns-then-at-kept
returns-then-at-kept g c =
    ap (λ x. slice_set c.args.kept.now c.args.made.0 x) c.note_record.ensures
    ∙ set_changed c.args.kept.now c.args.made.0 c.index-kept-at.result (kept_after (act_with (λ _. tt) c.args.act.now) c.args.gone)

pub returns-else-at-kept : goal.returns-else-at-kept
returns-else-at-kept g c = unchanged_past c.args.kept.now c.args.made.0 (kept_after (act_with (λ _. tt) c.args.act.now) c.args.gone) c.if-at-kept.false
