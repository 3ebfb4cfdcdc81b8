use Rattle.std.proofs.Common.{◌<◌, ◌^◌, length, false, sym, ap, ◌∙◌, subst}
use Rattle.tl_model.specs.declared.event.Act.TheVariants.{Back}
use Rattle.tl_model.specs.Past.{events_with}
use Rattle.tl_model.specs.Rules.{is_lawful, is_legal}
use Rattle.tl_desk.specs.Turns.{GivesBack}
use Rattle.tl_seats.specs.Seats.{place_at}
use Rattle.tl_seats.proofs.Adding.{IsItsTurn, back-leaves, leaving}
use Rattle.tl_seats.proofs.Carrying.{claim-found}
use Rattle.tl_seats.proofs.Since.{gives-since}
use Rattle.tl_seats.proofs.desk.SeatedDesk.back.Goals as goal

pub back-requires-clause-claim : goal.back-requires-clause-claim
back-requires-clause-claim g c =
    let me = c.args.self.now.actor in
    let seat = c.args.self.now.seat in
    let found = c.enter-cluster.result in
    let f = c.enter-cluster.ensures.found me c.args.self.now.number in
    claim-found me c.args.work seat.seen found.events f c.requires.own c.requires.claim

pub leave-requires-clause-header : goal.leave-requires-clause-header
leave-requires-clause-header g c =
    let me = c.args.self.now.actor in
    let seat = c.args.self.now.seat in
    let found = c.enter-cluster.result in
    let new = c.back.new.self in
    let t : IsItsTurn c.args.work.actor found new =
    back-leaves c.args.work found new _ c.back.ensures.stands c.back.ensures.lost in
    let mine : IsItsTurn me found new = subst (λ a. IsItsTurn a found new) c.requires.own t in
    mine.header ∙ c.enter-cluster.ensures.header

pub leave-requires-clause-added : goal.leave-requires-clause-added
leave-requires-clause-added g c =
    let me = c.args.self.now.actor in
    let seat = c.args.self.now.seat in
    let found = c.enter-cluster.result in
    let new = c.back.new.self in
    let t : IsItsTurn c.args.work.actor found new =
    back-leaves c.args.work found new _ c.back.ensures.stands c.back.ensures.lost in
    let mine : IsItsTurn me found new = subst (λ a. IsItsTurn a found new) c.requires.own t in
    leaving me c.enter-cluster.new.seat.number c.enter-cluster.new.seat.seen found new
    (c.enter-cluster.ensures.number ∙ c.args.self.now.number) c.enter-cluster.ensures.seen mine

pub returns-clause-back : goal.returns-clause-back
returns-clause-back g c =
    let me = c.args.self.now.actor in
    let seat = c.args.self.now.seat in
    let found = c.enter-cluster.result in
    let new = c.back.new.self in
    let f = c.enter-cluster.ensures.found c.args.work.actor (c.args.self.now.number ∙ sym (ap (λ a. a.0) c.requires.own)) in
    subst (λ es. GivesBack false c.args.work seat.seen es) (sym c.leave.ensures.seen)
    (gives-since c.args.work (Back c.args.work.rec) seat.seen found new _ f c.back.ensures.stands c.back.ensures.lost)

pub returns-clause-home : goal.returns-clause-home
returns-clause-home g c =
    ap (λ turn. place_at turn c.args.self.now.actor) (c.leave.ensures.turn ∙ sym c.args.self.now.of)

pub invariant_of-self : goal.invariant_of-self
invariant_of-self g c =
    let after = c.leave.ensures in
    record {
      of = after.turn;
      number = after.number ∙ c.enter-cluster.ensures.number ∙ c.args.self.now.number;
      away = after.holds;
      lawful = ap (λ es. is_lawful g.N.Named.header es) after.seen ∙ after.lawful;
      legal = λ tell. ap (λ es. is_legal g.N.Named.header (events_with g.T.Ticket.content es)) after.seen ∙ after.legal tell;
      count = subst (λ es. length es < 2 ^ 64) (sym after.seen) after.count;
    }
