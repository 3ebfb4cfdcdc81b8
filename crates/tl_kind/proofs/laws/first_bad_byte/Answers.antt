use Rattle.tl_kind.proofs.FirstBad.{first_bad_stands, front_stands}
use Rattle.tl_kind.proofs.laws.first_bad_byte.Goals as goal

pub returns-clause-place : goal.returns-clause-place
returns-clause-place c = λ text at kind short refused known. first_bad_stands text at kind short refused known

pub returns-clause-front : goal.returns-clause-front
returns-clause-front c = λ text at kind short refused. front_stands text at kind short refused
