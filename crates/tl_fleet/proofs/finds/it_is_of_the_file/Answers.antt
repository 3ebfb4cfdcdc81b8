use Rattle.tl_fleet.proofs.Found.{found_file, found_within}
use Rattle.tl_fleet.proofs.finds.it_is_of_the_file.Goals as goal

pub returns-clause-file : goal.returns-clause-file
returns-clause-file c = found_file

pub returns-clause-worker : goal.returns-clause-worker
returns-clause-worker c = found_within
