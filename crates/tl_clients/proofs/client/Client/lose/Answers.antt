use Rattle.std.proofs.Common.{ap}
use Rattle.tl_work.specs.Setting.{setting}
use Rattle.tl_work.proofs.Finding.{found-adds}
use Rattle.tl_clients.proofs.Calling.{memory-line}
use Rattle.tl_clients.proofs.Losing.{lose-ready, lost-line}
use Rattle.tl_clients.proofs.client.Client.lose.Goals as goal

pub invariant_of-self : goal.invariant_of-self
invariant_of-self g c =
    let post = g.K.Desk.post (g.K.Desk.home c.args.self.now.desk) in
    record {
      ready = lose-ready g.K.Desk.whole g.D.Ticket.Ticket.tells g.D.Ticket.Ticket.content post (g.K.Desk.post (g.K.Desk.home c.lose.new.self)) c.args.self.now.worker
          c.args.worker c.lose.result (g.K.Desk.seen c.args.self.now.desk) (g.K.Desk.seen c.lose.new.self) (ap g.K.Desk.post c.lose.ensures.home)
          c.args.self.now.ready c.lose.ensures.ok c.lose.ensures.err;
    }

pub returns-in-Ok-clause-line : goal.returns-in-Ok-clause-line
returns-in-Ok-clause-line g c =
    let post = g.K.Desk.post (g.K.Desk.home c.args.self.now.desk) in
    lost-line g.K.Desk.whole g.D.Ticket.Ticket.tells g.D.Ticket.Ticket.content post c.args.self.now.worker c.args.worker _
    (g.K.Desk.seen c.args.self.now.desk) (g.K.Desk.seen c.lose.new.self) c.args.self.now.ready c.in-Ok.ensures.ok

pub returns-in-Err-clause-line : goal.returns-in-Err-clause-line
returns-in-Err-clause-line g c =
    let post = g.K.Desk.post (g.K.Desk.home c.args.self.now.desk) in
    memory-line g.K.Desk.whole g.D.Ticket.Ticket.tells g.D.Ticket.Ticket.content post c.args.self.now.worker _ _ _ _
    (g.K.Desk.seen c.args.self.now.desk) (g.K.Desk.seen c.lose.new.self)
    (found-adds (setting g.K.Desk.whole g.D.Ticket.Ticket.tells g.D.Ticket.Ticket.content post c.args.self.now.worker) (g.K.Desk.seen c.args.self.now.desk) (g.K.Desk.seen c.lose.new.self) c.in-Err.ensures.err.finds)
    c.args.self.now.ready
