use Rattle.tl_fleet.proofs.Several.{other_stands}
use Rattle.tl_fleet.proofs.laws.other_events_keep_order.Goals as goal

pub returns : goal.returns
returns c = other_stands
