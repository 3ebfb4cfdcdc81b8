use Rattle.std.proofs.Common.{true, IfOk, subst}
use Rattle.tl_cluster.proofs.Carry.{if_ok}
use Rattle.tl_desk.specs.Turns.{Looks}
use Rattle.tl_desk.proofs.Owning.{Holds, looks}
use Rattle.tl_desk.proofs.alone.AloneDesk.look.Goals as goal

pub returns-clause-ok : goal.returns-clause-ok
returns-clause-ok g c f reading =
    let s = c.stands.ensures in
    let old = c.args.self.now.cluster in
    let actor = c.args.self.now.actor in
    let held : Holds g.T.Ticket.tells g.T.Ticket.content old =
    record { resident = s.resident; file = s.of; values = s.values } in
    subst (λ x. IfOk c.look.result (Looks true g.T.Ticket.tells g.T.Ticket.content actor x
    old.events c.look.new.self.events)) reading.2
    (if_ok c.look.result _ _
    (λ found. looks g.T.Ticket.tells g.T.Ticket.content old c.look.new.self actor reading.0.file found held)
    (c.look.ensures.ok reading.0 reading.1))
