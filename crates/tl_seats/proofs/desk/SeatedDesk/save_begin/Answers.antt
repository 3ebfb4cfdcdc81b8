use Rattle.std.proofs.Common.{false, IfOk, OnErr, sym, ap, ◌∙◌, subst}
use Rattle.tl_cluster.proofs.Carry.{if_ok}
use Rattle.tl_desk.specs.Finds.{Stays, is_any}
use Rattle.tl_desk.specs.Turns.{Begins}
use Rattle.tl_desk.proofs.Owning.{Holds, begins, either-way}
use Rattle.tl_seats.specs.Seats.{place_at}
use Rattle.tl_seats.proofs.Adding.{IsItsTurn, begun-leaves, leaving, nothing}
use Rattle.tl_seats.proofs.Carrying.{idle-found}
use Rattle.tl_seats.proofs.Since.{begins-since, err-stays}
use Rattle.tl_seats.proofs.desk.SeatedDesk.save_begin.Goals as goal

pub save_begin-job-requires-clause-idle : goal.save_begin-job-requires-clause-idle
save_begin-job-requires-clause-idle g c =
    let me = c.args.self.now.actor in
    let seat = c.args.self.now.seat in
    let found = c.enter-cluster.result in
    let f = c.enter-cluster.ensures.found me c.args.self.now.number in
    idle-found me seat.seen found.events f c.requires.idle

pub leave-requires-clause-header : goal.leave-requires-clause-header
leave-requires-clause-header g c =
    let me = c.args.self.now.actor in
    let seat = c.args.self.now.seat in
    let found = c.enter-cluster.result in
    let new = c.save_begin-job.new.self in
    let t : IsItsTurn me found new =
    either-way c.save_begin-job.result _ c.save_begin-job.ensures.ok c.save_begin-job.ensures.err
    (begun-leaves me found new) (nothing me found new) in
    t.header ∙ c.enter-cluster.ensures.header

pub leave-requires-clause-added : goal.leave-requires-clause-added
leave-requires-clause-added g c =
    let me = c.args.self.now.actor in
    let seat = c.args.self.now.seat in
    let found = c.enter-cluster.result in
    let new = c.save_begin-job.new.self in
    let t : IsItsTurn me found new =
    either-way c.save_begin-job.result _ c.save_begin-job.ensures.ok c.save_begin-job.ensures.err
    (begun-leaves me found new) (nothing me found new) in
    leaving me c.enter-cluster.new.seat.number c.enter-cluster.new.seat.seen found new
    (c.enter-cluster.ensures.number ∙ c.args.self.now.number) c.enter-cluster.ensures.seen t

pub returns-clause-ok : goal.returns-clause-ok
returns-clause-ok g c =
    let me = c.args.self.now.actor in
    let seat = c.args.self.now.seat in
    let found = c.enter-cluster.result in
    let new = c.save_begin-job.new.self in
    let f = c.enter-cluster.ensures.found me c.args.self.now.number in
    let s = c.stands.ensures in
    let held : Holds g.T.Ticket.tells g.T.Ticket.content found =
    record { resident = s.resident; file = s.of; values = s.values } in
    subst (λ es. IfOk c.save_begin-job.result (Begins false g.T.Ticket.tells g.T.Ticket.content (record { actor = me; header = g.N.Named.header }) seat.seen es)) (sym c.leave.ensures.seen)
    (if_ok c.save_begin-job.result _ _ (λ job h. begins-since g.T.Ticket.tells g.T.Ticket.content me found.header g.N.Named.header seat.seen found.events new.events job
    c.enter-cluster.ensures.header f (begins g.T.Ticket.tells g.T.Ticket.content found new me job held h)) c.save_begin-job.ensures.ok)

pub returns-clause-err : goal.returns-clause-err
returns-clause-err g c =
    let me = c.args.self.now.actor in
    let seat = c.args.self.now.seat in
    let found = c.enter-cluster.result in
    let new = c.save_begin-job.new.self in
    let f = c.enter-cluster.ensures.found me c.args.self.now.number in
    subst (λ es. OnErr c.save_begin-job.result (Stays false me seat.seen es is_any)) (sym c.leave.ensures.seen)
    (err-stays me seat.seen found new c.save_begin-job.result f c.save_begin-job.ensures.err)

pub returns-clause-home : goal.returns-clause-home
returns-clause-home g c =
    ap (λ turn. place_at turn c.args.self.now.actor) (c.leave.ensures.turn ∙ sym c.args.self.now.of)
