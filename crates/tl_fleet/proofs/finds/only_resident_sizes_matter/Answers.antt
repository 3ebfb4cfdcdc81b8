use Rattle.tl_fleet.proofs.Sizes.{stands_by_other}
use Rattle.tl_fleet.proofs.finds.only_resident_sizes_matter.Goals as goal

pub returns : goal.returns
returns c = stands_by_other
