use Rattle.tl_pieces.proofs.Begun.{run-moment}
use Rattle.tl_pieces.proofs.running.a_run_has_its_moment.Goals as goal

pub returns : goal.returns
returns g c = λ s worker is_so run before after r. run-moment s worker is_so run before after r
