use Rattle.tl_run.proofs.Rests.{none-open}
use Rattle.tl_run.proofs.play.at_rest.Goals as goal

pub returns-clause-rest : goal.returns-clause-rest
returns-clause-rest c = none-open _ c.new.ensures.events
