use Rattle.tl_lang.proofs.KindLaws.{Keeps-evaluate}
use Rattle.tl_lang.proofs.laws.kinds_are_kept.Goals as goal

pub returns : goal.returns
returns c given scope names k fuel e agree = Keeps-evaluate given c.args._expr.now scope names k e agree fuel
