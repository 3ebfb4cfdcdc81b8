use Rattle.std.proofs.Common.{false, sym, ap, ◌∙◌, subst}
use Rattle.tl_model.specs.declared.event.Act.TheVariants.{Saved}
use Rattle.tl_cluster.specs.Saves.{saved_block, saving}
use Rattle.tl_desk.specs.Finds.{Turns, is_any}
use Rattle.tl_seats.specs.Seats.{place_at}
use Rattle.tl_seats.proofs.Adding.{IsItsTurn, leaving, one-turned}
use Rattle.tl_seats.proofs.Carrying.{save-found, save-within, value-found}
use Rattle.tl_seats.proofs.Since.{any-turn}
use Rattle.tl_seats.proofs.desk.SeatedDesk.saved.Goals as goal

pub saved-requires-clause-open : goal.saved-requires-clause-open
saved-requires-clause-open g c =
    let me = c.args.self.now.actor in
    let seat = c.args.self.now.seat in
    let found = c.enter-cluster.result in
    let f = c.enter-cluster.ensures.found c.args.job.actor (c.args.self.now.number ∙ sym (ap (λ a. a.0) c.requires.own)) in
    save-found c.args.job.actor seat.seen found.events f ∙ c.requires.open

pub saved-requires-clause-value : goal.saved-requires-clause-value
saved-requires-clause-value g c =
    let me = c.args.self.now.actor in
    let seat = c.args.self.now.seat in
    let found = c.enter-cluster.result in
    let f = c.enter-cluster.ensures.found c.args.job.actor (c.args.self.now.number ∙ sym (ap (λ a. a.0) c.requires.own)) in
    λ tell. c.requires.value tell ∙ sym (value-found g.T.Ticket.content c.args.job.actor seat.seen found.events c.args.job.block.file f
    (save-within g.N.Named.header seat.seen c.args.job.actor c.args.job.block.file c.args.self.now.lawful c.requires.open))

pub leave-requires-clause-header : goal.leave-requires-clause-header
leave-requires-clause-header g c =
    let me = c.args.self.now.actor in
    let seat = c.args.self.now.seat in
    let found = c.enter-cluster.result in
    let new = c.saved.new.self in
    let known = saved_block c.args.job.block in
    let t : IsItsTurn c.args.job.actor found new =
    one-turned c.args.job.actor (Saved c.args.job.block.file known.size known.digest) found new _ c.saved.ensures in
    let mine : IsItsTurn me found new = subst (λ a. IsItsTurn a found new) c.requires.own t in
    mine.header ∙ c.enter-cluster.ensures.header

pub leave-requires-clause-added : goal.leave-requires-clause-added
leave-requires-clause-added g c =
    let me = c.args.self.now.actor in
    let seat = c.args.self.now.seat in
    let found = c.enter-cluster.result in
    let new = c.saved.new.self in
    let known = saved_block c.args.job.block in
    let t : IsItsTurn c.args.job.actor found new =
    one-turned c.args.job.actor (Saved c.args.job.block.file known.size known.digest) found new _ c.saved.ensures in
    let mine : IsItsTurn me found new = subst (λ a. IsItsTurn a found new) c.requires.own t in
    leaving me c.enter-cluster.new.seat.number c.enter-cluster.new.seat.seen found new
    (c.enter-cluster.ensures.number ∙ c.args.self.now.number) c.enter-cluster.ensures.seen mine

pub returns-clause-saved : goal.returns-clause-saved
returns-clause-saved g c =
    let me = c.args.self.now.actor in
    let seat = c.args.self.now.seat in
    let found = c.enter-cluster.result in
    let new = c.saved.new.self in
    let f = c.enter-cluster.ensures.found c.args.job.actor (c.args.self.now.number ∙ sym (ap (λ a. a.0) c.requires.own)) in
    subst (λ es. Turns false c.args.job.actor seat.seen es is_any (saving c.args.job)) (sym c.leave.ensures.seen)
    (any-turn c.args.job.actor seat.seen found new (saving c.args.job) _ f c.saved.ensures)

pub returns-clause-home : goal.returns-clause-home
returns-clause-home g c =
    ap (λ turn. place_at turn c.args.self.now.actor) (c.leave.ensures.turn ∙ sym c.args.self.now.of)
