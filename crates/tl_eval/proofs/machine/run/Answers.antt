use Rattle.std.proofs.Common.{◌≡◌, arith}
use Rattle.tl_eval.proofs.Outputs.{slice_more}
use Rattle.tl_eval.proofs.machine.run.Goals as goal

pub returns : goal.returns
returns c =
    let all : c.loop.counter ≡ c.args.units = omega arith in
    slice_more c.args.running c.loop.running c.args.units c.loop.counter all c.loop.invariant
