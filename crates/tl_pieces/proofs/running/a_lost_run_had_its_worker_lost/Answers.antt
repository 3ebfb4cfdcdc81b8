use Rattle.tl_pieces.proofs.Losing.{lost-by-loss}
use Rattle.tl_pieces.proofs.running.a_lost_run_had_its_worker_lost.Goals as goal

pub returns : goal.returns
returns g c = λ s worker is_so run before after r lost. lost-by-loss s worker is_so run before after r lost
