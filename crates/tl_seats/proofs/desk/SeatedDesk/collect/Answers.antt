use Rattle.std.proofs.Common.{false, IfOk, OnErr, sym, ap, ◌∙◌, subst}
use Rattle.tl_cluster.proofs.Carry.{if_ok}
use Rattle.tl_desk.specs.Finds.{Stays, is_any}
use Rattle.tl_desk.specs.Turns.{Collects}
use Rattle.tl_desk.proofs.Owning.{collects, either-way}
use Rattle.tl_seats.specs.Seats.{place_at}
use Rattle.tl_seats.proofs.Adding.{IsItsTurn, leaving, let-go-leaves, nothing}
use Rattle.tl_seats.proofs.Since.{collects-since, err-stays}
use Rattle.tl_seats.proofs.desk.SeatedDesk.collect.Goals as goal

pub leave-requires-clause-header : goal.leave-requires-clause-header
leave-requires-clause-header g c =
    let me = c.args.self.now.actor in
    let seat = c.args.self.now.seat in
    let found = c.enter-cluster.result in
    let new = c.collect-count.new.self in
    let t : IsItsTurn me found new =
    either-way c.collect-count.result _ c.collect-count.ensures.collected c.collect-count.ensures.err
    (λ k h. let-go-leaves me k found new h.0) (nothing me found new) in
    t.header ∙ c.enter-cluster.ensures.header

pub leave-requires-clause-added : goal.leave-requires-clause-added
leave-requires-clause-added g c =
    let me = c.args.self.now.actor in
    let seat = c.args.self.now.seat in
    let found = c.enter-cluster.result in
    let new = c.collect-count.new.self in
    let t : IsItsTurn me found new =
    either-way c.collect-count.result _ c.collect-count.ensures.collected c.collect-count.ensures.err
    (λ k h. let-go-leaves me k found new h.0) (nothing me found new) in
    leaving me c.enter-cluster.new.seat.number c.enter-cluster.new.seat.seen found new
    (c.enter-cluster.ensures.number ∙ c.args.self.now.number) c.enter-cluster.ensures.seen t

pub returns-clause-ok : goal.returns-clause-ok
returns-clause-ok g c =
    let me = c.args.self.now.actor in
    let seat = c.args.self.now.seat in
    let found = c.enter-cluster.result in
    let new = c.collect-count.new.self in
    let f = c.enter-cluster.ensures.found me c.args.self.now.number in
    subst (λ es. IfOk c.collect-count.result (Collects false me c.args.n seat.seen es)) (sym c.leave.ensures.seen)
    (if_ok c.collect-count.result _ _ (λ k h. collects-since me c.args.n k seat.seen found.events new.events f (collects me c.args.n k found new h)) c.collect-count.ensures.collected)

pub returns-clause-err : goal.returns-clause-err
returns-clause-err g c =
    let me = c.args.self.now.actor in
    let seat = c.args.self.now.seat in
    let found = c.enter-cluster.result in
    let new = c.collect-count.new.self in
    let f = c.enter-cluster.ensures.found me c.args.self.now.number in
    subst (λ es. OnErr c.collect-count.result (Stays false me seat.seen es is_any)) (sym c.leave.ensures.seen)
    (err-stays me seat.seen found new c.collect-count.result f c.collect-count.ensures.err)

pub returns-clause-home : goal.returns-clause-home
returns-clause-home g c =
    ap (λ turn. place_at turn c.args.self.now.actor) (c.leave.ensures.turn ∙ sym c.args.self.now.of)
