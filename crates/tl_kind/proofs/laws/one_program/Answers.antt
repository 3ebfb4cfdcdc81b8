use Rattle.tl_kind.proofs.Never.{one_program_stands}
use Rattle.tl_kind.proofs.laws.one_program.Goals as goal

pub returns : goal.returns
returns c = λ text p q g h. one_program_stands text p q g h
