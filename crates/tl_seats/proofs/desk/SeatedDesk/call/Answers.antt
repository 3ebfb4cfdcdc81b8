use Rattle.std.proofs.Common.{false, IfOk, OnErr, sym, ap, ◌∙◌, subst}
use Rattle.tl_cluster.proofs.Carry.{if_ok}
use Rattle.tl_desk.specs.Finds.{Stays, is_any}
use Rattle.tl_desk.specs.Turns.{Calls}
use Rattle.tl_desk.proofs.Owning.{either-way}
use Rattle.tl_seats.specs.Seats.{place_at}
use Rattle.tl_seats.proofs.Adding.{IsItsTurn, call-leaves, leaving, nothing}
use Rattle.tl_seats.proofs.Carrying.{idle-found}
use Rattle.tl_seats.proofs.Since.{call-since, err-stays}
use Rattle.tl_seats.proofs.desk.SeatedDesk.call.Goals as goal

pub call-answer-requires-clause-idle : goal.call-answer-requires-clause-idle
call-answer-requires-clause-idle g c =
    let me = c.args.self.now.actor in
    let seat = c.args.self.now.seat in
    let found = c.enter-cluster.result in
    let f = c.enter-cluster.ensures.found me c.args.self.now.number in
    idle-found me seat.seen found.events f c.requires.idle

pub leave-requires-clause-header : goal.leave-requires-clause-header
leave-requires-clause-header g c =
    let me = c.args.self.now.actor in
    let seat = c.args.self.now.seat in
    let found = c.enter-cluster.result in
    let new = c.call-answer.new.self in
    let t : IsItsTurn me found new =
    either-way c.call-answer.result _ c.call-answer.ensures.ok c.call-answer.ensures.err
    (call-leaves me found new c.args.command) (nothing me found new) in
    t.header ∙ c.enter-cluster.ensures.header

pub leave-requires-clause-added : goal.leave-requires-clause-added
leave-requires-clause-added g c =
    let me = c.args.self.now.actor in
    let seat = c.args.self.now.seat in
    let found = c.enter-cluster.result in
    let new = c.call-answer.new.self in
    let t : IsItsTurn me found new =
    either-way c.call-answer.result _ c.call-answer.ensures.ok c.call-answer.ensures.err
    (call-leaves me found new c.args.command) (nothing me found new) in
    leaving me c.enter-cluster.new.seat.number c.enter-cluster.new.seat.seen found new
    (c.enter-cluster.ensures.number ∙ c.args.self.now.number) c.enter-cluster.ensures.seen t

pub returns-clause-ok : goal.returns-clause-ok
returns-clause-ok g c =
    let me = c.args.self.now.actor in
    let seat = c.args.self.now.seat in
    let found = c.enter-cluster.result in
    let new = c.call-answer.new.self in
    let f = c.enter-cluster.ensures.found me c.args.self.now.number in
    subst (λ es. IfOk c.call-answer.result (Calls false me c.args.command seat.seen es)) (sym c.leave.ensures.seen)
    (if_ok c.call-answer.result _ _ (λ answer. call-since me c.args.command seat.seen found new answer f) c.call-answer.ensures.ok)

pub returns-clause-err : goal.returns-clause-err
returns-clause-err g c =
    let me = c.args.self.now.actor in
    let seat = c.args.self.now.seat in
    let found = c.enter-cluster.result in
    let new = c.call-answer.new.self in
    let f = c.enter-cluster.ensures.found me c.args.self.now.number in
    subst (λ es. OnErr c.call-answer.result (Stays false me seat.seen es is_any)) (sym c.leave.ensures.seen)
    (err-stays me seat.seen found new c.call-answer.result f c.call-answer.ensures.err)

pub returns-clause-home : goal.returns-clause-home
returns-clause-home g c =
    ap (λ turn. place_at turn c.args.self.now.actor) (c.leave.ensures.turn ∙ sym c.args.self.now.of)
