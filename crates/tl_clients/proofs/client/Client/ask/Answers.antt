use Rattle.std.proofs.Common.{ap}
use Rattle.tl_work.specs.Setting.{setting}
use Rattle.tl_work.proofs.Finding.{found-adds}
use Rattle.tl_clients.proofs.Calling.{call-ready, memory-line, said-line}
use Rattle.tl_clients.proofs.client.Client.ask.Goals as goal

pub invariant_of-self : goal.invariant_of-self
invariant_of-self g c =
    let post = g.K.Desk.post (g.K.Desk.home c.args.self.now.desk) in
    record {
      ready = call-ready g.K.Desk.whole g.D.Ticket.Ticket.tells g.D.Ticket.Ticket.content post (g.K.Desk.post (g.K.Desk.home c.call.new.self)) c.args.self.now.worker
          c.args.command c.call.result (g.K.Desk.seen c.args.self.now.desk) (g.K.Desk.seen c.call.new.self) c.requires.no_read (ap g.K.Desk.post {x = g.K.Desk.home c.call.new.self} c.call.ensures.home)
          c.args.self.now.ready c.call.ensures.ok c.call.ensures.err;
    }

pub returns-in-Ok-clause-line : goal.returns-in-Ok-clause-line
returns-in-Ok-clause-line g c =
    let post = g.K.Desk.post (g.K.Desk.home c.args.self.now.desk) in
    said-line g.K.Desk.whole g.D.Ticket.Ticket.tells g.D.Ticket.Ticket.content post c.args.self.now.worker _
    c.args.command (c.in-Ok.at, c.in-Ok.reply) (g.K.Desk.seen c.args.self.now.desk) (g.K.Desk.seen c.call.new.self) c.requires.no_read
    c.args.self.now.ready c.in-Ok.ensures.ok

pub returns-in-Err-clause-line : goal.returns-in-Err-clause-line
returns-in-Err-clause-line g c =
    let post = g.K.Desk.post (g.K.Desk.home c.args.self.now.desk) in
    memory-line g.K.Desk.whole g.D.Ticket.Ticket.tells g.D.Ticket.Ticket.content post c.args.self.now.worker _ _ _ _
    (g.K.Desk.seen c.args.self.now.desk) (g.K.Desk.seen c.call.new.self)
    (found-adds (setting g.K.Desk.whole g.D.Ticket.Ticket.tells g.D.Ticket.Ticket.content post c.args.self.now.worker) (g.K.Desk.seen c.args.self.now.desk) (g.K.Desk.seen c.call.new.self) c.in-Err.ensures.err.finds)
    c.args.self.now.ready
