use Rattle.std.proofs.Common.{◌≤◌, subst, sym, ◌∙◌, length}
use Rattle.tl_eval.proofs.Sharing.{value_is_short, entries_more}
use Rattle.tl_eval.proofs.material.shared_conf.Goals as goal

pub copy_of-requires : goal.copy_of-requires
copy_of-requires c =
    let short = value_is_short c.args.pairs.now c.loop-pair.pair-index c.pair-item.result c.requires c.loop-pair-test.true c.pair-item.is in
    subst (λ bytes. length bytes ≤ 1048576) (sym c.as_slice.ensures.value) short

pub loop-pair-preserved : goal.loop-pair-preserved
loop-pair-preserved c =
    entries_more c.args.pairs.now c.loop-pair.pair-index c.pair-item.result _ _ _ c.pair-item.is c.loop-pair-test.true c.loop-pair.invariant c.in_ok-push.ensures.items
    (λ i. (c.as_slice-key.ensures.value i, (c.in_ok-value.ensures ∙ c.as_slice.ensures.value) i))
