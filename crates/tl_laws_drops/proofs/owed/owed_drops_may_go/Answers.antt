use Rattle.tl_laws_drops.proofs.Owing.{victim-due, victim-found, victim-goes}
use Rattle.tl_laws_drops.proofs.owed.owed_drops_may_go.Goals as goal

pub returns-clause-found : goal.returns-clause-found
returns-clause-found c = λ sizes header past worker is. victim-found sizes header past worker is

pub returns-clause-goes : goal.returns-clause-goes
returns-clause-goes c = λ past worker f is. victim-goes past worker f is

pub returns-clause-due : goal.returns-clause-due
returns-clause-due c = λ header past worker f first found. victim-due header past worker f first found
