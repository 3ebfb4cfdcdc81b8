use Rattle.tl_pieces.proofs.Pieced.{read-given-up-adds}
use Rattle.tl_pieces.proofs.serving.a_read_given_up_adds_its_call_runs_and_end.Goals as goal

pub returns : goal.returns
returns g c = λ s command number before after r. read-given-up-adds s command number before after r
