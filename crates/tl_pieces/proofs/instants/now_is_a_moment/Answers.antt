use Rattle.tl_pieces.proofs.Longer.{moment-now}
use Rattle.tl_pieces.proofs.instants.now_is_a_moment.Goals as goal

pub returns : goal.returns
returns g c = λ s is_so events quiet so. moment-now s is_so events quiet so
