use Rattle.std.proofs.Common.{◌∙◌}
use Rattle.tl_eval.proofs.Leading.{leads_ending, hands_down}
use Rattle.tl_eval.proofs.stop.unwind.Goals as goal

pub loop-next-preserved : goal.loop-next-preserved
loop-next-preserved c left =
    leads_ending _ _ _ _ c.in_ok-next.ensures left
    ∙ hands_down _ _ _ _ _ left c.in-Give.is c.in-Some.ensures
    ∙ c.loop-next.invariant left
