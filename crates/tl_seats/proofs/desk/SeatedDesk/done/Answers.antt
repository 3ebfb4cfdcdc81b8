use Rattle.std.proofs.Common.{◌<◌, ◌^◌, length, false, IfOk, OnErr, sym, ap, ◌∙◌, subst}
use Rattle.tl_model.specs.Past.{events_with}
use Rattle.tl_model.specs.Rules.{is_lawful, is_legal}
use Rattle.tl_desk.specs.Finds.{Stays, is_any}
use Rattle.tl_desk.specs.Turns.{Finishes}
use Rattle.tl_desk.proofs.Owning.{stays}
use Rattle.tl_seats.specs.Seats.{place_at}
use Rattle.tl_seats.proofs.Adding.{IsItsTurn, done-leaves, leaving, nothing}
use Rattle.tl_seats.proofs.Carrying.{claim-found, outputs-found, values-found}
use Rattle.tl_seats.proofs.Since.{finishes-since, match-err, match-if-err, match-ok, match-way, stays-since}
use Rattle.tl_seats.proofs.desk.SeatedDesk.done.Goals as goal

pub done-finish-requires-clause-claim : goal.done-finish-requires-clause-claim
done-finish-requires-clause-claim g c =
    let me = c.args.self.now.actor in
    let seat = c.args.self.now.seat in
    let found = c.enter-cluster.result in
    let f = c.enter-cluster.ensures.found me c.args.self.now.number in
    claim-found me c.args.work seat.seen found.events f c.requires.own c.requires.claim

pub done-finish-requires-clause-outputs : goal.done-finish-requires-clause-outputs
done-finish-requires-clause-outputs g c =
    let me = c.args.self.now.actor in
    let seat = c.args.self.now.seat in
    let found = c.enter-cluster.result in
    let f = c.enter-cluster.ensures.found me c.args.self.now.number in
    outputs-found me seat.seen found.events c.args.work.rec c.args.blocks.items f c.requires.outputs

pub done-finish-requires-clause-values : goal.done-finish-requires-clause-values
done-finish-requires-clause-values g c =
    let me = c.args.self.now.actor in
    let seat = c.args.self.now.seat in
    let found = c.enter-cluster.result in
    let f = c.enter-cluster.ensures.found me c.args.self.now.number in
    values-found g.T.Ticket.tells g.T.Ticket.content g.N.Named.header me seat.seen found.events c.args.work.rec c.args.blocks.items f
    c.args.self.now.lawful c.requires.outputs c.requires.values

pub leave-requires-clause-header : goal.leave-requires-clause-header
leave-requires-clause-header g c =
    let me = c.args.self.now.actor in
    let seat = c.args.self.now.seat in
    let found = c.enter-cluster.result in
    let new = c.done-finish.new.self in
    let t : IsItsTurn c.args.work.actor found new =
    match-way c.done-finish.result _ _ (done-leaves c.args.work c.args.blocks.items found new)
    (λ back h. nothing c.args.work.actor found new h.2) c.done-finish.ensures in
    let mine : IsItsTurn me found new = subst (λ a. IsItsTurn a found new) c.requires.own t in
    mine.header ∙ c.enter-cluster.ensures.header

pub leave-requires-clause-added : goal.leave-requires-clause-added
leave-requires-clause-added g c =
    let me = c.args.self.now.actor in
    let seat = c.args.self.now.seat in
    let found = c.enter-cluster.result in
    let new = c.done-finish.new.self in
    let t : IsItsTurn c.args.work.actor found new =
    match-way c.done-finish.result _ _ (done-leaves c.args.work c.args.blocks.items found new)
    (λ back h. nothing c.args.work.actor found new h.2) c.done-finish.ensures in
    let mine : IsItsTurn me found new = subst (λ a. IsItsTurn a found new) c.requires.own t in
    leaving me c.enter-cluster.new.seat.number c.enter-cluster.new.seat.seen found new
    (c.enter-cluster.ensures.number ∙ c.args.self.now.number) c.enter-cluster.ensures.seen mine

pub returns-clause-ok : goal.returns-clause-ok
returns-clause-ok g c =
    let me = c.args.self.now.actor in
    let seat = c.args.self.now.seat in
    let found = c.enter-cluster.result in
    let new = c.done-finish.new.self in
    let f = c.enter-cluster.ensures.found c.args.work.actor (c.args.self.now.number ∙ sym (ap (λ a. a.0) c.requires.own)) in
    subst (λ es. IfOk c.done-finish.result (Finishes false c.args.work seat.seen es)) (sym c.leave.ensures.seen)
    (match-ok c.done-finish.result _ _ _ (λ ended. finishes-since c.args.work c.args.blocks.items seat.seen found new ended f) c.done-finish.ensures)

pub returns-clause-back : goal.returns-clause-back
returns-clause-back g c =
    let me = c.args.self.now.actor in
    let seat = c.args.self.now.seat in
    let found = c.enter-cluster.result in
    let new = c.done-finish.new.self in
    match-if-err c.done-finish.result _ _ _ (λ back h. (h.0, h.1)) c.done-finish.ensures

pub returns-clause-err : goal.returns-clause-err
returns-clause-err g c =
    let me = c.args.self.now.actor in
    let seat = c.args.self.now.seat in
    let found = c.enter-cluster.result in
    let new = c.done-finish.new.self in
    let f = c.enter-cluster.ensures.found me c.args.self.now.number in
    subst (λ es. OnErr c.done-finish.result (Stays false me seat.seen es is_any)) (sym c.leave.ensures.seen)
    (match-err c.done-finish.result _ _ (λ back h. stays-since me seat.seen found.events new.events is_any f (stays me found new is_any h.2 tt)) c.done-finish.ensures)

pub returns-clause-home : goal.returns-clause-home
returns-clause-home g c =
    ap (λ turn. place_at turn c.args.self.now.actor) (c.leave.ensures.turn ∙ sym c.args.self.now.of)

pub invariant_of-self : goal.invariant_of-self
invariant_of-self g c =
    let after = c.leave.ensures in
    record {
      of = after.turn;
      number = after.number ∙ c.enter-cluster.ensures.number ∙ c.args.self.now.number;
      away = after.holds;
      lawful = ap (λ es. is_lawful g.N.Named.header es) after.seen ∙ after.lawful;
      legal = λ tell. ap (λ es. is_legal g.N.Named.header (events_with g.T.Ticket.content es)) after.seen ∙ after.legal tell;
      count = subst (λ es. length es < 2 ^ 64) (sym after.seen) after.count;
    }
