use Rattle.tl_cluster.proofs.Carry.{if_ok}
use Rattle.tl_desk.proofs.Owning.{Holds, claims}
use Rattle.tl_desk.proofs.alone.AloneDesk.claim.Goals as goal

pub returns-clause-ok : goal.returns-clause-ok
returns-clause-ok g c =
    let s = c.stands.ensures in
    let old = c.args.self.now.cluster in
    let held : Holds g.T.Ticket.tells g.T.Ticket.content old =
    record { resident = s.resident; file = s.of; values = s.values } in
    if_ok c.claim.result _ _
    (λ work. claims g.T.Ticket.tells g.T.Ticket.content old c.claim.new.self c.args.self.now.actor
    c.args.worker work held)
    c.claim.ensures.ok
