use Rattle.std.proofs.Common.{◌∙◌, ap, max, slice_set}
use Rattle.tl_steps.proofs.Lists.{set_changed, unchanged_past}
use Rattle.tl_prio.proofs.waiting.raise_at.Goals as goal

pub returns-then-at-waiting : goal.returns-then-at-waiting
returns-then-at-waiting c =
    ap (λ x. slice_set c.args.waiting.now c.args.at x) c.greater.ensures
    ∙ ap (λ n. slice_set c.args.waiting.now c.args.at (max c.args.prio n)) c.index-waiting-at.is
    ∙ set_changed c.args.waiting.now c.args.at c.index-waiting-at.result (max c.args.prio)

pub returns-else-at-waiting : goal.returns-else-at-waiting
returns-else-at-waiting c = unchanged_past c.args.waiting.now c.args.at (max c.args.prio) c.if-at-waiting.false
