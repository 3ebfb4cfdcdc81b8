use Rattle.tl_fleet.proofs.Found.{dropped_there}
use Rattle.tl_fleet.proofs.finds.a_dropped_file_is_found_no_more.Goals as goal

pub returns : goal.returns
returns c = dropped_there
