use Rattle.std.proofs.Common.{Ok, Err}
use Rattle.tl_names.specs.Tables.{place}
use Rattle.std.proofs.Common.{take}
use Rattle.tl_names.proofs.Walks.{walked}
use Rattle.tl_names.proofs.dirs.walk_front.Goals as goal

pub returns-in-Err : goal.returns-in-Err
returns-in-Err c =
    walked c.args.dirs.now.slots c.args.path.now c.args.len c.loop-i.i c.part.result.now c.loop-i.child (Err c.in-Err.refusal) (place c.args.dirs.now.slots (take c.args.len c.args.path.now))
    c.loop-i-test.true c.requires c.part.ensures c.in-Err.ensures c.loop-i.invariant

pub loop-i-preserved : goal.loop-i-preserved
loop-i-preserved c =
    walked c.args.dirs.now.slots c.args.path.now c.args.len c.loop-i.i c.part.result.now c.loop-i.child (Ok c.in-Ok.next) (place c.args.dirs.now.slots (take c.args.len c.args.path.now))
    c.loop-i-test.true c.requires c.part.ensures c.in-Ok.ensures c.loop-i.invariant
