use Rattle.std.proofs.Common.{false, sym, ap, ◌∙◌, subst}
use Rattle.tl_model.specs.declared.event.Act.TheVariants.{Shut}
use Rattle.tl_model.specs.Actors.{open_read}
use Rattle.tl_model.specs.Past.{without_tickets}
use Rattle.tl_desk.specs.Finds.{Turns, is_any}
use Rattle.tl_desk.specs.Turns.{with_act}
use Rattle.tl_seats.specs.Seats.{place_at}
use Rattle.tl_seats.proofs.Adding.{IsItsTurn, leaving, one-turned}
use Rattle.tl_seats.proofs.Carrying.{is-open, reading-found}
use Rattle.tl_seats.proofs.Since.{any-turn}
use Rattle.tl_seats.proofs.desk.SeatedDesk.shut.Goals as goal

pub shut-requires-clause-reading : goal.shut-requires-clause-reading
shut-requires-clause-reading g c =
    let me = c.args.self.now.actor in
    let seat = c.args.self.now.seat in
    let found = c.enter-cluster.result in
    let f = c.enter-cluster.ensures.found me c.args.self.now.number in
    let r = reading-found me c.requires.reading.0 seat.seen found.events f c.requires.reading.1 in
    is-open (open_read (without_tickets found.events) me) r.0 r.1

pub leave-requires-clause-header : goal.leave-requires-clause-header
leave-requires-clause-header g c =
    let me = c.args.self.now.actor in
    let seat = c.args.self.now.seat in
    let found = c.enter-cluster.result in
    let new = c.shut.new.self in
    let f = c.enter-cluster.ensures.found me c.args.self.now.number in
    let r = reading-found me c.requires.reading.0 seat.seen found.events f c.requires.reading.1 in
    let t : IsItsTurn me found new =
    one-turned me (Shut r.0.file) found new _ (c.shut.ensures r.0 r.1) in
    t.header ∙ c.enter-cluster.ensures.header

pub leave-requires-clause-added : goal.leave-requires-clause-added
leave-requires-clause-added g c =
    let me = c.args.self.now.actor in
    let seat = c.args.self.now.seat in
    let found = c.enter-cluster.result in
    let new = c.shut.new.self in
    let f = c.enter-cluster.ensures.found me c.args.self.now.number in
    let r = reading-found me c.requires.reading.0 seat.seen found.events f c.requires.reading.1 in
    let t : IsItsTurn me found new =
    one-turned me (Shut r.0.file) found new _ (c.shut.ensures r.0 r.1) in
    leaving me c.enter-cluster.new.seat.number c.enter-cluster.new.seat.seen found new
    (c.enter-cluster.ensures.number ∙ c.args.self.now.number) c.enter-cluster.ensures.seen t

pub returns-clause-shut : goal.returns-clause-shut
returns-clause-shut g c file reading =
    let me = c.args.self.now.actor in
    let seat = c.args.self.now.seat in
    let found = c.enter-cluster.result in
    let new = c.shut.new.self in
    let f = c.enter-cluster.ensures.found me c.args.self.now.number in
    let r = reading-found me file seat.seen found.events f reading in
    subst (λ es. Turns false me seat.seen es is_any (with_act me (Shut file))) (sym c.leave.ensures.seen)
    (subst (λ x. Turns false me seat.seen new.events is_any (with_act me (Shut x))) r.2
    (any-turn me seat.seen found new (with_act me (Shut r.0.file)) _ f (c.shut.ensures r.0 r.1)))

pub returns-clause-home : goal.returns-clause-home
returns-clause-home g c =
    ap (λ turn. place_at turn c.args.self.now.actor) (c.leave.ensures.turn ∙ sym c.args.self.now.of)
