use Rattle.std.proofs.Common.{false, OnOk, OnErr, sym, ap, ◌∙◌, subst}
use Rattle.tl_model.specs.declared.event.Act.TheVariants.{Lose}
use Rattle.tl_desk.specs.Finds.{Stays, Turns, is_any}
use Rattle.tl_desk.specs.Turns.{with_act}
use Rattle.tl_seats.specs.Seats.{place_at}
use Rattle.tl_seats.proofs.Adding.{IsItsTurn, leaving, nothing, one-turned}
use Rattle.tl_seats.proofs.Since.{any-turn, err-stays, on-ok, on-way}
use Rattle.tl_seats.proofs.desk.SeatedDesk.lose.Goals as goal

pub leave-requires-clause-header : goal.leave-requires-clause-header
leave-requires-clause-header g c =
    let me = c.args.self.now.actor in
    let seat = c.args.self.now.seat in
    let found = c.enter-cluster.result in
    let new = c.lose-lost.new.self in
    let t : IsItsTurn me found new =
    on-way c.lose-lost.result c.lose-lost.ensures.ok c.lose-lost.ensures.err
    (one-turned me (Lose c.args.worker) found new _) (nothing me found new) in
    t.header ∙ c.enter-cluster.ensures.header

pub leave-requires-clause-added : goal.leave-requires-clause-added
leave-requires-clause-added g c =
    let me = c.args.self.now.actor in
    let seat = c.args.self.now.seat in
    let found = c.enter-cluster.result in
    let new = c.lose-lost.new.self in
    let t : IsItsTurn me found new =
    on-way c.lose-lost.result c.lose-lost.ensures.ok c.lose-lost.ensures.err
    (one-turned me (Lose c.args.worker) found new _) (nothing me found new) in
    leaving me c.enter-cluster.new.seat.number c.enter-cluster.new.seat.seen found new
    (c.enter-cluster.ensures.number ∙ c.args.self.now.number) c.enter-cluster.ensures.seen t

pub returns-clause-ok : goal.returns-clause-ok
returns-clause-ok g c =
    let me = c.args.self.now.actor in
    let seat = c.args.self.now.seat in
    let found = c.enter-cluster.result in
    let new = c.lose-lost.new.self in
    let f = c.enter-cluster.ensures.found me c.args.self.now.number in
    subst (λ es. OnOk c.lose-lost.result (Turns false me seat.seen es is_any (with_act me (Lose c.args.worker)))) (sym c.leave.ensures.seen)
    (on-ok c.lose-lost.result (any-turn me seat.seen found new (with_act me (Lose c.args.worker)) _ f) c.lose-lost.ensures.ok)

pub returns-clause-err : goal.returns-clause-err
returns-clause-err g c =
    let me = c.args.self.now.actor in
    let seat = c.args.self.now.seat in
    let found = c.enter-cluster.result in
    let new = c.lose-lost.new.self in
    let f = c.enter-cluster.ensures.found me c.args.self.now.number in
    subst (λ es. OnErr c.lose-lost.result (Stays false me seat.seen es is_any)) (sym c.leave.ensures.seen)
    (err-stays me seat.seen found new c.lose-lost.result f c.lose-lost.ensures.err)

pub returns-clause-home : goal.returns-clause-home
returns-clause-home g c =
    ap (λ turn. place_at turn c.args.self.now.actor) (c.leave.ensures.turn ∙ sym c.args.self.now.of)
