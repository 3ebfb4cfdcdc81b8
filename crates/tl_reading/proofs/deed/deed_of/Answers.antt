use Rattle.tl_reading.proofs.Tables.{deed_found, deed_none}
use Rattle.tl_reading.proofs.deed.deed_of.Goals as goal

pub returns-clause-found : goal.returns-clause-found
returns-clause-found c = rw c.find.ensures (deed_found c.args.word.now)

pub returns-clause-none : goal.returns-clause-none
returns-clause-none c = rw c.find.ensures (deed_none c.args.word.now)
