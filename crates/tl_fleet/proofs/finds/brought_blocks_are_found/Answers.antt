use Rattle.tl_fleet.proofs.Found.{each_brought}
use Rattle.tl_fleet.proofs.finds.brought_blocks_are_found.Goals as goal

pub returns : goal.returns
returns c = each_brought
