use Rattle.std.proofs.Common.{◌∙◌}
use Rattle.tl_eval.proofs.Leading.{leads_ending, stops_along}
use Rattle.tl_eval.proofs.stop.advance.Goals as goal

pub returns : goal.returns
returns c =
    stops_along _ _ _ _ _ (c.in_ok-next-2.ensures.same c.args.left ∙ leads_ending _ _ _ _ c.in_ok-next.ensures c.args.left) c.rest.ensures
