use Rattle.tl_laws_drops.proofs.ManyDrops.{wanted-place-kept, wanted-available-kept, other-kept, dropped-nowhere}
use Rattle.tl_laws_drops.proofs.many.drops_leave_what_is_wanted.Goals as goal

pub returns-clause-wanted : goal.returns-clause-wanted
returns-clause-wanted c = λ actor drops past may g wanted. wanted-place-kept actor drops past may g wanted

pub returns-clause-available : goal.returns-clause-available
returns-clause-available c = λ actor drops past may g wanted. wanted-available-kept actor drops past may g wanted

pub returns-clause-others : goal.returns-clause-others
returns-clause-others c = λ actor drops past g none. other-kept actor drops past g none

pub returns-clause-dropped : goal.returns-clause-dropped
returns-clause-dropped c = λ actor drops past may g is. dropped-nowhere actor drops past may g is
