use Rattle.tl_pieces.proofs.Adding.{added-none}
use Rattle.tl_pieces.proofs.additions.nothing_was_added.Goals as goal

pub returns : goal.returns
returns g c = λ s events. added-none s events
