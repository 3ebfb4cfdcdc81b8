use Rattle.tl_kind.proofs.Never.{refused_never}
use Rattle.tl_kind.proofs.laws.refused_spells_nothing.Goals as goal

pub returns : goal.returns
returns c = λ text at kind r program h. refused_never text at kind r program h
