use Rattle.tl_fleet.proofs.Found.{freed}
use Rattle.tl_fleet.proofs.finds.a_freed_file_is_found_no_more.Goals as goal

pub returns : goal.returns
returns c = freed
