use Rattle.tl_reading.proofs.Tables.{saying_found, saying_none}
use Rattle.tl_reading.proofs.saying.saying_of.Goals as goal

pub returns-clause-found : goal.returns-clause-found
returns-clause-found c = rw c.find.ensures (saying_found c.args.word.now)

pub returns-clause-none : goal.returns-clause-none
returns-clause-none c = rw c.find.ensures (saying_none c.args.word.now)
