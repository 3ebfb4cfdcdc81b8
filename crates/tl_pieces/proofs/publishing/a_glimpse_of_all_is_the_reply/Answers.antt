use Rattle.tl_pieces.proofs.Glimpses.{all-glimpsed}
use Rattle.tl_pieces.proofs.publishing.a_glimpse_of_all_is_the_reply.Goals as goal

pub returns : goal.returns
returns g c = λ calls path. all-glimpsed calls path
