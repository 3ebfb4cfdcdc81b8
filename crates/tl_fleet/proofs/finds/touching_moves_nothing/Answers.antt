use Rattle.tl_fleet.proofs.Found.{each_touched, one_touched}
use Rattle.tl_fleet.proofs.finds.touching_moves_nothing.Goals as goal

pub returns-clause-one : goal.returns-clause-one
returns-clause-one c = one_touched

pub returns-clause-each : goal.returns-clause-each
returns-clause-each c = each_touched
