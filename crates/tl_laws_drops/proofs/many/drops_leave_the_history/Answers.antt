use Rattle.std.proofs.Common.{ap}
use Rattle.tl_model.specs.History.{names_of, records_of}
use Rattle.tl_laws_drops.proofs.ManyDrops.{calls-kept, saved-kept}
use Rattle.tl_laws_drops.proofs.many.drops_leave_the_history.Goals as goal

pub returns-clause-calls : goal.returns-clause-calls
returns-clause-calls c = λ actor drops past. calls-kept actor drops past

pub returns-clause-names : goal.returns-clause-names
returns-clause-names c = λ actor drops past. ap names_of (calls-kept actor drops past)

pub returns-clause-records : goal.returns-clause-records
returns-clause-records c = λ actor drops past. ap records_of (calls-kept actor drops past)

pub returns-clause-saved : goal.returns-clause-saved
returns-clause-saved c = λ actor drops past g. saved-kept actor drops past g
