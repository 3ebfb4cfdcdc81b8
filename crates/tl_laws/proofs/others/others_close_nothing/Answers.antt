use Rattle.tl_laws.proofs.Apart.{claims-apart, no-claim-apart, reads-apart, saves-apart}
use Rattle.tl_laws.proofs.others.others_close_nothing.Goals as goal

pub returns-clause-reads : goal.returns-clause-reads
returns-clause-reads g c = λ actor more events others. reads-apart actor more events others

pub returns-clause-saves : goal.returns-clause-saves
returns-clause-saves g c = λ actor more events others. saves-apart actor more events others

pub returns-clause-claims : goal.returns-clause-claims
returns-clause-claims g c = λ actor more events claim others kept is. claims-apart actor more events claim others kept is

pub returns-clause-rests : goal.returns-clause-rests
returns-clause-rests g c = λ actor more events others is. no-claim-apart actor more events others is
