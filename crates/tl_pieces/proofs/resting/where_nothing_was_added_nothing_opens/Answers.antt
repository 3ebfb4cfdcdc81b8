use Rattle.tl_pieces.proofs.Others.{claim-stays, read-stays, rest-stays, save-stays}
use Rattle.tl_pieces.proofs.resting.where_nothing_was_added_nothing_opens.Goals as goal

pub returns-clause-reads : goal.returns-clause-reads
returns-clause-reads g c = λ s before after a. read-stays s before after a

pub returns-clause-saves : goal.returns-clause-saves
returns-clause-saves g c = λ s before after a. save-stays s before after a

pub returns-clause-claims : goal.returns-clause-claims
returns-clause-claims g c = λ s before after a none. claim-stays s before after a none

pub returns-clause-rests : goal.returns-clause-rests
returns-clause-rests g c = λ s before after a idle. rest-stays s before after a idle
