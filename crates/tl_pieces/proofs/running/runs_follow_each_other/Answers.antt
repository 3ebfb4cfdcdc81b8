use Rattle.tl_pieces.proofs.Begun.{ran-both}
use Rattle.tl_pieces.proofs.running.runs_follow_each_other.Goals as goal

pub returns : goal.returns
returns g c = λ s worker is_so first then before between after a b. ran-both s worker is_so first then before between after a b
