use Rattle.tl_pieces.proofs.Glimpses.{names-kept}
use Rattle.tl_pieces.proofs.publishing.others_publish_nothing.Goals as goal

pub returns : goal.returns
returns g c = λ call calls h. names-kept call calls h
