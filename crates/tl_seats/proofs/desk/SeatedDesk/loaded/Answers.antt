use Rattle.std.proofs.Common.{false, IfOk, OnErr, sym, ap, ◌∙◌, subst}
use Rattle.tl_model.specs.Actors.{open_read}
use Rattle.tl_model.specs.Past.{without_tickets}
use Rattle.tl_cluster.specs.Saves.{saved_block}
use Rattle.tl_cluster.proofs.Carry.{if_ok}
use Rattle.tl_desk.specs.Finds.{Stays, is_any}
use Rattle.tl_desk.specs.Turns.{Serves}
use Rattle.tl_desk.proofs.Owning.{Holds, either-way, serves}
use Rattle.tl_seats.specs.Seats.{place_at}
use Rattle.tl_seats.proofs.Adding.{IsItsTurn, leaving, load-leaves, nothing}
use Rattle.tl_seats.proofs.Carrying.{is-open, reading-found, reads-that, saved-found, saved-within, value-found}
use Rattle.tl_seats.proofs.Since.{err-stays, serves-since}
use Rattle.tl_seats.proofs.desk.SeatedDesk.loaded.Goals as goal

pub loaded-answer-requires-clause-reading : goal.loaded-answer-requires-clause-reading
loaded-answer-requires-clause-reading g c =
    let me = c.args.self.now.actor in
    let seat = c.args.self.now.seat in
    let found = c.enter-cluster.result in
    let f = c.enter-cluster.ensures.found me c.args.self.now.number in
    let block = c.args.block in
    let r = reading-found me block.file seat.seen found.events f c.requires.reading in
    is-open (open_read (without_tickets found.events) me) r.0 r.1

pub loaded-answer-requires-clause-file : goal.loaded-answer-requires-clause-file
loaded-answer-requires-clause-file g c =
    let me = c.args.self.now.actor in
    let seat = c.args.self.now.seat in
    let found = c.enter-cluster.result in
    let f = c.enter-cluster.ensures.found me c.args.self.now.number in
    let block = c.args.block in
    let r = reading-found me block.file seat.seen found.events f c.requires.reading in
    reads-that found.events me block.file r

pub loaded-answer-requires-clause-saved : goal.loaded-answer-requires-clause-saved
loaded-answer-requires-clause-saved g c =
    let me = c.args.self.now.actor in
    let seat = c.args.self.now.seat in
    let found = c.enter-cluster.result in
    let f = c.enter-cluster.ensures.found me c.args.self.now.number in
    let kept = saved-found found.header me seat.seen found.events c.args.block f c.stands.ensures.lawful c.requires.saved in
    kept

pub loaded-answer-requires-clause-value : goal.loaded-answer-requires-clause-value
loaded-answer-requires-clause-value g c =
    let me = c.args.self.now.actor in
    let seat = c.args.self.now.seat in
    let found = c.enter-cluster.result in
    let f = c.enter-cluster.ensures.found me c.args.self.now.number in
    λ tell. c.requires.value tell ∙ sym (value-found g.T.Ticket.content me seat.seen found.events c.args.block.file f
    (saved-within g.N.Named.header seat.seen c.args.block.file (saved_block c.args.block) c.args.self.now.lawful c.requires.saved))

pub leave-requires-clause-header : goal.leave-requires-clause-header
leave-requires-clause-header g c =
    let me = c.args.self.now.actor in
    let seat = c.args.self.now.seat in
    let found = c.enter-cluster.result in
    let new = c.loaded-answer.new.self in
    let t : IsItsTurn me found new =
    either-way c.loaded-answer.result _ c.loaded-answer.ensures.ok c.loaded-answer.ensures.err
    (λ answer. load-leaves me c.args.worker c.args.block answer found new) (nothing me found new) in
    t.header ∙ c.enter-cluster.ensures.header

pub leave-requires-clause-added : goal.leave-requires-clause-added
leave-requires-clause-added g c =
    let me = c.args.self.now.actor in
    let seat = c.args.self.now.seat in
    let found = c.enter-cluster.result in
    let new = c.loaded-answer.new.self in
    let t : IsItsTurn me found new =
    either-way c.loaded-answer.result _ c.loaded-answer.ensures.ok c.loaded-answer.ensures.err
    (λ answer. load-leaves me c.args.worker c.args.block answer found new) (nothing me found new) in
    leaving me c.enter-cluster.new.seat.number c.enter-cluster.new.seat.seen found new
    (c.enter-cluster.ensures.number ∙ c.args.self.now.number) c.enter-cluster.ensures.seen t

pub returns-clause-ok : goal.returns-clause-ok
returns-clause-ok g c =
    let me = c.args.self.now.actor in
    let seat = c.args.self.now.seat in
    let found = c.enter-cluster.result in
    let new = c.loaded-answer.new.self in
    let f = c.enter-cluster.ensures.found me c.args.self.now.number in
    let kept = saved-found found.header me seat.seen found.events c.args.block f c.stands.ensures.lawful c.requires.saved in
    let s = c.stands.ensures in
    let held : Holds g.T.Ticket.tells g.T.Ticket.content found =
    record { resident = s.resident; file = s.of; values = s.values } in
    subst (λ es. IfOk c.loaded-answer.result (Serves false g.T.Ticket.tells g.T.Ticket.content me c.args.worker c.args.block seat.seen es)) (sym c.leave.ensures.seen)
    (if_ok c.loaded-answer.result _ _ (λ answer l. serves-since g.T.Ticket.tells g.T.Ticket.content me c.args.worker c.args.block seat.seen found.events new.events answer f
    (serves g.T.Ticket.tells g.T.Ticket.content found new me c.args.worker c.args.block answer held kept
    (λ tell. c.requires.value tell ∙ sym (value-found g.T.Ticket.content me seat.seen found.events c.args.block.file f
    (saved-within g.N.Named.header seat.seen c.args.block.file (saved_block c.args.block) c.args.self.now.lawful c.requires.saved))) l)) c.loaded-answer.ensures.ok)

pub returns-clause-err : goal.returns-clause-err
returns-clause-err g c =
    let me = c.args.self.now.actor in
    let seat = c.args.self.now.seat in
    let found = c.enter-cluster.result in
    let new = c.loaded-answer.new.self in
    let f = c.enter-cluster.ensures.found me c.args.self.now.number in
    subst (λ es. OnErr c.loaded-answer.result (Stays false me seat.seen es is_any)) (sym c.leave.ensures.seen)
    (err-stays me seat.seen found new c.loaded-answer.result f c.loaded-answer.ensures.err)

pub returns-clause-home : goal.returns-clause-home
returns-clause-home g c =
    ap (λ turn. place_at turn c.args.self.now.actor) (c.leave.ensures.turn ∙ sym c.args.self.now.of)
