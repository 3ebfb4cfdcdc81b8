use Rattle.tl_pieces.proofs.Glimpses.{glimpse-stays}
use Rattle.tl_pieces.proofs.publishing.glimpses_of_the_past_stay.Goals as goal

pub returns : goal.returns
returns g c = λ more calls u path few. glimpse-stays more calls u path few
