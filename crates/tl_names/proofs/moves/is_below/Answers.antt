use Rattle.std.proofs.Common.{◌≡◌, length, arith}
use Rattle.tl_names.proofs.Movable.{below_taken, parts_are, parts_differ, parts_not, taken_more}
use Rattle.tl_names.proofs.moves.is_below.Goals as goal

pub returns-then-ne : goal.returns-then-ne
returns-then-ne c =
    let long : c.len-i-end.result ≡ length c.args.front.now = c.len-i-end.ensures.value in
    parts_differ c.args.path.now c.args.front.now c.loop-i.i c.part.result.now c.part-in-loop-i.result.now (omega arith) c.part.ensures c.part-in-loop-i.ensures
    (parts_not c.part.result.now c.part-in-loop-i.result.now (c.if-ne.ensures))

pub loop-i-preserved : goal.loop-i-preserved
loop-i-preserved c =
    let long : c.len-i-end.result ≡ length c.args.front.now = c.len-i-end.ensures.value in
    let path_long : c.len.result ≡ length c.args.path.now = c.len.ensures.value in
    let front_long : c.len-2.result ≡ length c.args.front.now = c.len-2.ensures.value in
    taken_more c.args.path.now c.args.front.now c.loop-i.i c.part.result.now c.part-in-loop-i.result.now (omega arith) (omega arith) c.part.ensures c.part-in-loop-i.ensures
    (parts_are c.part.result.now c.part-in-loop-i.result.now (c.if-ne.ensures)) c.loop-i.invariant

pub returns : goal.returns
returns c =
    let long : c.len-i-end.result ≡ length c.args.front.now = c.len-i-end.ensures.value in
    below_taken c.args.path.now c.args.front.now c.loop-i.i (omega arith) c.loop-i.invariant
