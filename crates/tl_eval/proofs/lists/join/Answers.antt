use Rattle.std.proofs.Common.{◌<◌, ◌+◌, arith, length}
use Rattle.tl_eval.proofs.Pieces.{joined_more, joined_over}
use Rattle.tl_eval.proofs.lists.join.Goals as goal

pub loop-text-preserved : goal.loop-text-preserved
loop-text-preserved c =
    let so_far = c.loop-text.invariant in (
      so_far.0,
      so_far.1,
      joined_more c.args.between.now so_far.0 c.text-item.result c.in-Some.rest.now c.loop-text.text-index _ _ _ _ c.text-item.is c.as_slice-in-loop-text.ensures.value c.loop-text-test.true so_far.2 c.in_ok-extend_from_slice.ensures.items c.in_ok-extend_from_slice-2.ensures.items,
    )

pub returns-then-len-gt-BYTES_LIMIT : goal.returns-then-len-gt-BYTES_LIMIT
returns-then-len-gt-BYTES_LIMIT c =
    let so_far = c.loop-text.invariant in
    let long : 1048576 < length c.extend_from_slice-in-loop-text.new.self.items = omega (arith, c.len.ensures, c.if-len-gt-BYTES_LIMIT.true, c.extend_from_slice-in-loop-text.new.self.ok.0) in
    joined_over _ so_far.0 _ _ (c.loop-text.text-index + 1) _ so_far.1
    (joined_more c.args.between.now so_far.0 c.text-item.result c.in-Some.rest.now c.loop-text.text-index _ _ _ _ c.text-item.is c.as_slice-in-loop-text.ensures.value c.loop-text-test.true so_far.2 c.in_ok-extend_from_slice.ensures.items c.in_ok-extend_from_slice-2.ensures.items)
    long
