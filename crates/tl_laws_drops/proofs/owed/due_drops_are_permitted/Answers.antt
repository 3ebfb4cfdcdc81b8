use Rattle.tl_laws_drops.proofs.Owing.{due-lawful, due-legal, due-permitted}
use Rattle.tl_laws_drops.proofs.owed.due_drops_are_permitted.Goals as goal

pub returns-clause-permitted : goal.returns-clause-permitted
returns-clause-permitted c = λ header event past drops ok quiet due. due-permitted header event past drops ok quiet due

pub returns-clause-legal : goal.returns-clause-legal
returns-clause-legal c = λ header event past drops ok quiet due none. due-legal header event past drops ok quiet due none

pub returns-clause-lawful : goal.returns-clause-lawful
returns-clause-lawful c = λ header event past drops lawful due. due-lawful header event past drops lawful due
