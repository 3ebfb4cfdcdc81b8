use Rattle.tl_fleet.proofs.Found.{one_brought}
use Rattle.tl_fleet.proofs.finds.a_brought_block_is_found.Goals as goal

pub returns : goal.returns
returns c = one_brought
