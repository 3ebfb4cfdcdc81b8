use Rattle.tl_fleet.proofs.Several.{done_stands}
use Rattle.tl_fleet.proofs.laws.done_keeps_order.Goals as goal

pub returns : goal.returns
returns c = done_stands
