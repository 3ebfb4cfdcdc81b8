use Rattle.tl_fleet.proofs.Held.{dropped_held, each_installed_held, each_touched_held, freed_fewer, freed_held, installed_held, lost_fewer, new_held, settled_held, touched_held}
use Rattle.tl_fleet.proofs.laws.a_change_counts_what_it_moves.Goals as goal

pub returns-clause-empty : goal.returns-clause-empty
returns-clause-empty c = new_held

pub returns-clause-installed : goal.returns-clause-installed
returns-clause-installed c = installed_held

pub returns-clause-each : goal.returns-clause-each
returns-clause-each c = each_installed_held

pub returns-clause-touched : goal.returns-clause-touched
returns-clause-touched c = touched_held

pub returns-clause-each_touched : goal.returns-clause-each_touched
returns-clause-each_touched c = each_touched_held

pub returns-clause-freed : goal.returns-clause-freed
returns-clause-freed c = freed_held

pub returns-clause-no_more_freed : goal.returns-clause-no_more_freed
returns-clause-no_more_freed c = freed_fewer

pub returns-clause-no_more_lost : goal.returns-clause-no_more_lost
returns-clause-no_more_lost c = lost_fewer

pub returns-clause-dropped : goal.returns-clause-dropped
returns-clause-dropped c = dropped_held

pub returns-clause-settled : goal.returns-clause-settled
returns-clause-settled c = settled_held
