use Rattle.tl_laws_drops.proofs.ManyDrops.{tasks-kept, wanted-kept, may-go-kept, ready-kept, prios-kept, next-kept}
use Rattle.tl_laws_drops.proofs.many.drops_change_no_plan.Goals as goal

pub returns-clause-tasks : goal.returns-clause-tasks
returns-clause-tasks c = λ actor drops past may. tasks-kept actor drops past may

pub returns-clause-wanted : goal.returns-clause-wanted
returns-clause-wanted c = λ actor drops past may g. wanted-kept actor drops past may g

pub returns-clause-goes : goal.returns-clause-goes
returns-clause-goes c = λ actor drops past may g. may-go-kept actor drops past may g

pub returns-clause-ready : goal.returns-clause-ready
returns-clause-ready c = λ actor drops past may one. ready-kept actor drops past may one

pub returns-clause-prios : goal.returns-clause-prios
returns-clause-prios c = λ actor drops past may one. prios-kept actor drops past may one

pub returns-clause-next : goal.returns-clause-next
returns-clause-next c = λ order actor drops past may one. next-kept order actor drops past may one
