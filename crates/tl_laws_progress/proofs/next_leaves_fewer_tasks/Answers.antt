use Rattle.tl_laws_progress.proofs.OpenReads.{next-leaves-fewer}
use Rattle.tl_laws_progress.proofs.next_leaves_fewer_tasks.Goals as goal

pub returns : goal.returns
returns g c = λ header events lawful idle actor worker made is. next-leaves-fewer header events lawful idle actor worker made is
