use Rattle.tl_cluster.proofs.Carry.{if_ok}
use Rattle.tl_desk.proofs.Owning.{Holds, begins}
use Rattle.tl_desk.proofs.alone.AloneDesk.save_begin.Goals as goal

pub returns-clause-ok : goal.returns-clause-ok
returns-clause-ok g c =
    let s = c.stands.ensures in
    let old = c.args.self.now.cluster in
    let held : Holds g.T.Ticket.tells g.T.Ticket.content old =
    record { resident = s.resident; file = s.of; values = s.values } in
    if_ok c.save_begin.result _ _
    (λ job. begins g.T.Ticket.tells g.T.Ticket.content old c.save_begin.new.self c.args.self.now.actor job held)
    c.save_begin.ensures.ok
