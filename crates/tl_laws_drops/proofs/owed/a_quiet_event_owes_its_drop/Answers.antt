use Rattle.tl_laws_drops.proofs.Owing.{drop-owed, none-owed}
use Rattle.tl_laws_drops.proofs.owed.a_quiet_event_owes_its_drop.Goals as goal

pub returns-clause-drop : goal.returns-clause-drop
returns-clause-drop c = λ header event past worker quiet is. drop-owed header event past worker quiet is

pub returns-clause-settled : goal.returns-clause-settled
returns-clause-settled c = λ header event past quiet is. none-owed header event past quiet is
