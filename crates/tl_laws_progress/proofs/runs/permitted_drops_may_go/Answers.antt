use Rattle.tl_laws_progress.proofs.Running.{drops-may-go}
use Rattle.tl_laws_progress.proofs.runs.permitted_drops_may_go.Goals as goal

pub returns : goal.returns
returns g c = λ header actor drops events ok. drops-may-go header actor drops events ok
