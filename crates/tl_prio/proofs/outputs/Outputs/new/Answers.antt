use Rattle.tl_steps.proofs.Lists.{files_pushed}
use Rattle.tl_prio.specs.Data.{new_output}
use Rattle.tl_prio.proofs.outputs.Outputs.new.Goals as goal

pub loop-out-preserved : goal.loop-out-preserved
loop-out-preserved c =
    files_pushed new_output c.args.made c.loop-out.out c.loop-out.items.items _ c.new_output.result c.in_ok-push.ensures.items c.new_output.ensures c.loop-out.invariant
