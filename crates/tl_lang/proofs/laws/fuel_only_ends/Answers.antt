use Rattle.tl_lang.proofs.FuelLaws.{Enters-evaluate}
use Rattle.tl_lang.proofs.laws.fuel_only_ends.Goals as goal

pub returns : goal.returns
returns c given names = Enters-evaluate given c.args._expr.now names
