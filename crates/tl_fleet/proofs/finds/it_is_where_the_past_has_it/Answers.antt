use Rattle.tl_fleet.proofs.Places.{found_place}
use Rattle.tl_fleet.proofs.Single.{stands_once}
use Rattle.tl_fleet.proofs.finds.it_is_where_the_past_has_it.Goals as goal

pub returns-clause-place : goal.returns-clause-place
returns-clause-place c sizes header past workers stands f = found_place sizes header past workers f stands

pub returns-clause-once : goal.returns-clause-once
returns-clause-once c = stands_once
