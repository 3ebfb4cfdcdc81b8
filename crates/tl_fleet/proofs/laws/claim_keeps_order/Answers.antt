use Rattle.tl_fleet.proofs.Several.{claim_stands}
use Rattle.tl_fleet.proofs.laws.claim_keeps_order.Goals as goal

pub returns : goal.returns
returns c = claim_stands
