use Rattle.tl_laws_drops.proofs.Drop.{is-unwanted}
use Rattle.tl_laws_drops.proofs.Choosing.{spares-all, waits-same, can-run-same, ready-same, prios-same, prio-same, next-same}
use Rattle.tl_laws_drops.proofs.choice.drops_change_no_choice.Goals as goal

pub returns-clause-waits : goal.returns-clause-waits
returns-clause-waits c = λ actor worker f past can one i reader maker at.
    let unwanted = is-unwanted past worker f can in
    waits-same actor worker f past unwanted reader (spares-all past f unwanted one i reader at) maker

pub returns-clause-runs : goal.returns-clause-runs
returns-clause-runs c = λ actor worker f past can one i r at.
    let unwanted = is-unwanted past worker f can in can-run-same actor worker f past unwanted r (spares-all past f unwanted one i r at)

pub returns-clause-ready : goal.returns-clause-ready
returns-clause-ready c = λ actor worker f past can one. ready-same actor worker f past (is-unwanted past worker f can) one

pub returns-clause-prios : goal.returns-clause-prios
returns-clause-prios c = λ actor worker f past can one. prios-same actor worker f past (is-unwanted past worker f can) one

pub returns-clause-prio : goal.returns-clause-prio
returns-clause-prio c = λ actor worker f past can one made. prio-same actor worker f past (is-unwanted past worker f can) one made

pub returns-clause-next : goal.returns-clause-next
returns-clause-next c = λ order actor worker f past can one. next-same order actor worker f past (is-unwanted past worker f can) one
