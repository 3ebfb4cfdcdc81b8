use Rattle.tl_pieces.proofs.Adding.{added-both}
use Rattle.tl_pieces.proofs.additions.additions_follow_each_other.Goals as goal

pub returns : goal.returns
returns g c = λ s first then before between after a b. added-both s first then before between after a b
