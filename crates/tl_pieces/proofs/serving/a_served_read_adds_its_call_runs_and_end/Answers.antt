use Rattle.tl_pieces.proofs.Pieced.{read-out-adds}
use Rattle.tl_pieces.proofs.serving.a_served_read_adds_its_call_runs_and_end.Goals as goal

pub returns : goal.returns
returns g c = λ s command number block before after r. read-out-adds s command number block before after r
