use Rattle.tl_laws.proofs.Ordered.{lawful-ordered}
use Rattle.tl_laws.proofs.numbers.inputs_are_older.Goals as goal

pub returns : goal.returns
returns g c = λ header past lawful. lawful-ordered header past lawful
