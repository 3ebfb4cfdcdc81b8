use Rattle.tl_pieces.proofs.Pieced.{not-yet-adds, tried-out-adds, try-given-up-adds}
use Rattle.tl_pieces.proofs.serving.a_try_adds_its_call_and_end.Goals as goal

pub returns-clause-served : goal.returns-clause-served
returns-clause-served g c = λ s command number block before after r. tried-out-adds s command number block before after r

pub returns-clause-not_yet : goal.returns-clause-not_yet
returns-clause-not_yet g c = λ s command number file before after r. not-yet-adds s command number file before after r

pub returns-clause-given_up : goal.returns-clause-given_up
returns-clause-given_up g c = λ s command number before after r. try-given-up-adds s command number before after r
