use Rattle.tl_fleet.proofs.Found.{lost_there}
use Rattle.tl_fleet.proofs.finds.a_loss_takes_what_was_there.Goals as goal

pub returns : goal.returns
returns c = lost_there
