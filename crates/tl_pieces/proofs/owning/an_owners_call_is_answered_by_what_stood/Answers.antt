use Rattle.tl_pieces.proofs.Owners.{owned-call}
use Rattle.tl_pieces.proofs.owning.an_owners_call_is_answered_by_what_stood.Goals as goal

pub returns : goal.returns
returns g c = λ s command number reply before after whole r. owned-call s command number reply before after whole r
