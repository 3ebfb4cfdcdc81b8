use Rattle.tl_laws_drops.proofs.ManyDrops.{read-kept, claim-kept, save-kept}
use Rattle.tl_laws_drops.proofs.many.drops_close_nothing.Goals as goal

pub returns-clause-reads : goal.returns-clause-reads
returns-clause-reads c = λ actor drops past a. read-kept actor drops past a

pub returns-clause-claims : goal.returns-clause-claims
returns-clause-claims c = λ actor drops past a. claim-kept actor drops past a

pub returns-clause-saves : goal.returns-clause-saves
returns-clause-saves c = λ actor drops past a. save-kept actor drops past a
