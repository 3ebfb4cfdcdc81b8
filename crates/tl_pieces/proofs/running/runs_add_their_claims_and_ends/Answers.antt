use Rattle.tl_pieces.proofs.Begun.{ran-adds}
use Rattle.tl_pieces.proofs.running.runs_add_their_claims_and_ends.Goals as goal

pub returns : goal.returns
returns g c = λ s worker is_so runs before after r. ran-adds s worker is_so runs before after r
