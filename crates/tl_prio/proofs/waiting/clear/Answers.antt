use Rattle.std.proofs.Common.{rules, ◌∙◌, ap, slice_set}
use Rattle.tl_steps.proofs.Lists.{changed_first, changed_next, changed_all}
use Rattle.tl_prio.proofs.waiting.clear.Goals as goal

pub loop-prio-preserved : goal.loop-prio-preserved
loop-prio-preserved c =
    ap (λ x. slice_set c.loop-prio.waiting c.loop-prio.prio-index x) c.least.ensures
    ∙ changed_next c.args.waiting.now c.loop-prio.waiting c.loop-prio.prio-index 0 (λ n. 0) c.loop-prio.invariant (search rules)

pub returns : goal.returns
returns c =
    c.loop-prio.invariant
    ∙ ap (λ k. changed_first k (λ n. 0) c.args.waiting.now) (search rules)
    ∙ changed_all c.args.waiting.now (λ n. 0)
