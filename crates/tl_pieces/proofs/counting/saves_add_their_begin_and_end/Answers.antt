use Rattle.tl_pieces.proofs.Pieced.{saves-add}
use Rattle.tl_pieces.proofs.counting.saves_add_their_begin_and_end.Goals as goal

pub returns : goal.returns
returns g c = λ s saves before after r. saves-add s saves before after r
