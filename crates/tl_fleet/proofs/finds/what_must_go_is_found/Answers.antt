use Rattle.tl_fleet.proofs.Held.{settled_found}
use Rattle.tl_fleet.proofs.finds.what_must_go_is_found.Goals as goal

pub returns : goal.returns
returns c = settled_found
