use Rattle.std.proofs.Common.{false, IfOk, OnErr, sym, ap, ◌∙◌, subst}
use Rattle.tl_model.specs.Actors.{open_read}
use Rattle.tl_model.specs.Past.{without_tickets}
use Rattle.tl_cluster.proofs.Carry.{if_ok}
use Rattle.tl_desk.specs.Finds.{Stays, is_any}
use Rattle.tl_desk.specs.Turns.{Looks}
use Rattle.tl_desk.proofs.Owning.{Holds, either-way, looks}
use Rattle.tl_seats.specs.Seats.{place_at}
use Rattle.tl_seats.proofs.Adding.{IsItsTurn, leaving, look-leaves, nothing}
use Rattle.tl_seats.proofs.Carrying.{is-open, reading-found}
use Rattle.tl_seats.proofs.Since.{err-stays, looks-since}
use Rattle.tl_seats.proofs.desk.SeatedDesk.look.Goals as goal

pub look-found-requires-clause-reading : goal.look-found-requires-clause-reading
look-found-requires-clause-reading g c =
    let me = c.args.self.now.actor in
    let seat = c.args.self.now.seat in
    let found = c.enter-cluster.result in
    let f = c.enter-cluster.ensures.found me c.args.self.now.number in
    let r = reading-found me c.requires.reading.0 seat.seen found.events f c.requires.reading.1 in
    is-open (open_read (without_tickets found.events) me) r.0 r.1

pub leave-requires-clause-header : goal.leave-requires-clause-header
leave-requires-clause-header g c =
    let me = c.args.self.now.actor in
    let seat = c.args.self.now.seat in
    let found = c.enter-cluster.result in
    let new = c.look-found.new.self in
    let f = c.enter-cluster.ensures.found me c.args.self.now.number in
    let r = reading-found me c.requires.reading.0 seat.seen found.events f c.requires.reading.1 in
    let t : IsItsTurn me found new =
    either-way c.look-found.result _ (c.look-found.ensures.ok r.0 r.1) c.look-found.ensures.err
    (look-leaves g.T.Ticket.tells g.T.Ticket.content me r.0.file found new) (nothing me found new) in
    t.header ∙ c.enter-cluster.ensures.header

pub leave-requires-clause-added : goal.leave-requires-clause-added
leave-requires-clause-added g c =
    let me = c.args.self.now.actor in
    let seat = c.args.self.now.seat in
    let found = c.enter-cluster.result in
    let new = c.look-found.new.self in
    let f = c.enter-cluster.ensures.found me c.args.self.now.number in
    let r = reading-found me c.requires.reading.0 seat.seen found.events f c.requires.reading.1 in
    let t : IsItsTurn me found new =
    either-way c.look-found.result _ (c.look-found.ensures.ok r.0 r.1) c.look-found.ensures.err
    (look-leaves g.T.Ticket.tells g.T.Ticket.content me r.0.file found new) (nothing me found new) in
    leaving me c.enter-cluster.new.seat.number c.enter-cluster.new.seat.seen found new
    (c.enter-cluster.ensures.number ∙ c.args.self.now.number) c.enter-cluster.ensures.seen t

pub returns-clause-ok : goal.returns-clause-ok
returns-clause-ok g c file reading =
    let me = c.args.self.now.actor in
    let seat = c.args.self.now.seat in
    let found = c.enter-cluster.result in
    let new = c.look-found.new.self in
    let f = c.enter-cluster.ensures.found me c.args.self.now.number in
    let r = reading-found me file seat.seen found.events f reading in
    let s = c.stands.ensures in
    let held : Holds g.T.Ticket.tells g.T.Ticket.content found =
    record { resident = s.resident; file = s.of; values = s.values } in
    subst (λ es. IfOk c.look-found.result (Looks false g.T.Ticket.tells g.T.Ticket.content me file seat.seen es)) (sym c.leave.ensures.seen)
    (subst (λ x. IfOk c.look-found.result (Looks false g.T.Ticket.tells g.T.Ticket.content me x seat.seen new.events)) r.2
    (if_ok c.look-found.result _ _ (λ answer l. looks-since g.T.Ticket.tells g.T.Ticket.content me r.0.file seat.seen found.events new.events answer f
    (looks g.T.Ticket.tells g.T.Ticket.content found new me r.0.file answer held l)) (c.look-found.ensures.ok r.0 r.1)))

pub returns-clause-err : goal.returns-clause-err
returns-clause-err g c =
    let me = c.args.self.now.actor in
    let seat = c.args.self.now.seat in
    let found = c.enter-cluster.result in
    let new = c.look-found.new.self in
    let f = c.enter-cluster.ensures.found me c.args.self.now.number in
    subst (λ es. OnErr c.look-found.result (Stays false me seat.seen es is_any)) (sym c.leave.ensures.seen)
    (err-stays me seat.seen found new c.look-found.result f c.look-found.ensures.err)

pub returns-clause-home : goal.returns-clause-home
returns-clause-home g c =
    ap (λ turn. place_at turn c.args.self.now.actor) (c.leave.ensures.turn ∙ sym c.args.self.now.of)
