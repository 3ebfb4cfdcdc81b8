use Rattle.tl_lang.proofs.LimitLaws.{Within-evaluate}
use Rattle.tl_lang.proofs.laws.limits_are_kept.Goals as goal

pub returns : goal.returns
returns c given names fuel literals g all = Within-evaluate given g c.args._expr.now literals names all fuel
