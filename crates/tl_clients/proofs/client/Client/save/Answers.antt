use Rattle.std.proofs.Common.{ap}
use Rattle.tl_pieces.specs.Faults.{FaultCount}
use Rattle.tl_work.specs.Setting.{setting}
use Rattle.tl_clients.proofs.SavingUp.{save-line-failed, saving-either}
use Rattle.tl_clients.proofs.Staying.{ready-on}
use Rattle.tl_clients.proofs.client.Client.save.Goals as goal

pub invariant_of-self : goal.invariant_of-self
invariant_of-self g c =
    let whole = g.K.Desk.whole in
    let tells = g.D.Ticket.Ticket.tells in
    let content = g.D.Ticket.Ticket.content in
    let post = g.K.Desk.post (g.K.Desk.home c.args.self.now.desk) in
    let post' = g.K.Desk.post (g.K.Desk.home c.save_up_to.new.desk) in
    let own = c.args.self.now.worker in
    let seen = g.K.Desk.seen c.args.self.now.desk in
    let after = g.K.Desk.seen c.save_up_to.new.desk in
    let some = saving-either (setting whole tells content post own) c.args.n seen after c.save_up_to.result (c.save_up_to.ensures.ok own) (c.save_up_to.ensures.failed own) in
    record { ready = ready-on whole tells content post post' own seen after (ap g.K.Desk.post c.save_up_to.ensures.home) c.args.self.now.ready some c.save_up_to.ensures.idle }

pub returns-in-Err-clause-line : goal.returns-in-Err-clause-line
returns-in-Err-clause-line g c =
    let whole = g.K.Desk.whole in
    let tells = g.D.Ticket.Ticket.tells in
    let content = g.D.Ticket.Ticket.content in
    let post = g.K.Desk.post (g.K.Desk.home c.args.self.now.desk) in
    let own = c.args.self.now.worker in
    let seen = g.K.Desk.seen c.args.self.now.desk in
    let after = g.K.Desk.seen c.save_up_to.new.desk in
    let count : FaultCount = record { before = g.D.Depot.faults c.args.self.now.depot; now = g.D.Depot.faults c.save_up_to.new.depot } in
    save-line-failed (setting whole tells content post own) count c.args.n seen after c.in-Err.error c.unnumbered.result c.unnumbered.ensures
    (c.in-Err.ensures.failed own) c.in-Err.ensures.fault c.save_up_to.ensures.idle
