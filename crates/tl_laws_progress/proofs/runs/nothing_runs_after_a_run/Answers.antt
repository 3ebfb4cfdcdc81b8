use Rattle.tl_laws_progress.proofs.Running.{run-closes}
use Rattle.tl_laws_progress.proofs.runs.nothing_runs_after_a_run.Goals as goal

pub returns : goal.returns
returns g c = λ events later actor worker made run none a. run-closes events later actor worker made run none a
