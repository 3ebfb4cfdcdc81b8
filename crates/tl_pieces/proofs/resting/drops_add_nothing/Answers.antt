use Rattle.tl_pieces.proofs.Dropping.{drops-add}
use Rattle.tl_pieces.proofs.resting.drops_add_nothing.Goals as goal

pub returns : goal.returns
returns g c = λ s drops events. drops-add s drops events
