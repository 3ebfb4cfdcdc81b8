use Rattle.std.proofs.Common.{◌∙◌}
use Rattle.tl_laws_drops.proofs.Drop.{is-there, is-unwanted, place-of-other, place-of-dropped}
use Rattle.tl_laws_drops.proofs.TasksKept.{wanted-available}
use Rattle.tl_laws_drops.proofs.places.drops_take_nothing_wanted.Goals as goal

pub returns-clause-available : goal.returns-clause-available
returns-clause-available c = λ actor worker f past can g wanted there. wanted-available actor worker f past (is-unwanted past worker f can) g wanted ∙ there

pub returns-clause-others : goal.returns-clause-others
returns-clause-others c = λ actor worker f past can g other. place-of-other actor worker f past g other

pub returns-clause-dropped : goal.returns-clause-dropped
returns-clause-dropped c = λ actor worker f past can. place-of-dropped actor worker f past (is-there past worker f can)
