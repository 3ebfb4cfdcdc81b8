use Rattle.tl_pieces.proofs.Placing.{called-adds}
use Rattle.tl_pieces.proofs.calling.a_call_adds_itself_and_what_follows.Goals as goal

pub returns : goal.returns
returns g c = λ s command number reply before after call. called-adds s command number reply before after call
