use Rattle.tl_pieces.proofs.Adding.{added-own}
use Rattle.tl_pieces.proofs.additions.additions_are_own_events.Goals as goal

pub returns : goal.returns
returns g c = λ s mine before after a. added-own s mine before after a
