use Rattle.tl_laws_drops.proofs.Drop.{is-unwanted}
use Rattle.tl_laws_drops.proofs.TasksKept.{tasks-same, is-task-same, wanted-same, may-go-same}
use Rattle.tl_laws_drops.proofs.tasks.drops_change_no_task.Goals as goal

pub returns-clause-table : goal.returns-clause-table
returns-clause-table c = λ actor worker f past can. tasks-same actor worker f past (is-unwanted past worker f can)

pub returns-clause-task : goal.returns-clause-task
returns-clause-task c = λ actor worker f past can made. is-task-same actor worker f past (is-unwanted past worker f can) made

pub returns-clause-wanted : goal.returns-clause-wanted
returns-clause-wanted c = λ actor worker f past can g. wanted-same actor worker f past (is-unwanted past worker f can) g

pub returns-clause-goes : goal.returns-clause-goes
returns-clause-goes c = λ actor worker f past can g. may-go-same actor worker f past (is-unwanted past worker f can) g
