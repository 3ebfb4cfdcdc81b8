use Rattle.std.proofs.Common.{ap}
use Rattle.tl_work.specs.Setting.{setting}
use Rattle.tl_clients.proofs.Collecting.{collected-either}
use Rattle.tl_clients.proofs.Staying.{ready-on}
use Rattle.tl_clients.proofs.client.Client.collect.Goals as goal

pub invariant_of-self : goal.invariant_of-self
invariant_of-self g c =
    let whole = g.K.Desk.whole in
    let tells = g.D.Ticket.Ticket.tells in
    let content = g.D.Ticket.Ticket.content in
    let post = g.K.Desk.post (g.K.Desk.home c.args.self.now.desk) in
    let post' = g.K.Desk.post (g.K.Desk.home c.collect_up_to.new.desk) in
    let own = c.args.self.now.worker in
    let seen = g.K.Desk.seen c.args.self.now.desk in
    let after = g.K.Desk.seen c.collect_up_to.new.desk in
    let some = collected-either (setting whole tells content post own) c.args.n seen after c.collect_up_to.result (c.collect_up_to.ensures.ok own) (c.collect_up_to.ensures.err own) in
    record { ready = ready-on whole tells content post post' own seen after (ap g.K.Desk.post c.collect_up_to.ensures.home) c.args.self.now.ready some c.collect_up_to.ensures.idle }
