use Rattle.std.proofs.Common.{rules, ◌≡◌, ◌∙◌, ◌<◌, length, ap, subst, sym}
use Rattle.tl_fleet.proofs.Changes.{whole}
use Rattle.tl_fleet.specs.Workers.{IsFleet, IsOnce, changed_at, emptied}
use Rattle.tl_fleet.proofs.Once.{once_lost}
use Rattle.tl_fleet.specs.Order.{StandsInOrder}
use Rattle.tl_fleet.specs.Events.{after_loss}
use Rattle.tl_fleet.proofs.Events.{loss_stands}
use Rattle.tl_fleet.proofs.fleet.Fleet.lose.Goals as goal

pub invariant_of-self : goal.invariant_of-self
invariant_of-self c =
    let now : c.deref_mut.result.now ≡ c.self.inside.workers.items = search rules in
    let few : length c.lose_at.new.workers < 256 = search rules in
    let same = whole c.self.inside.workers.len c.lose_at.new.workers c.self.inside.workers.items (search rules) (search rules) in
    subst IsFleet (sym same) (record { few = few; once = subst IsOnce (sym (c.lose_at.ensures ∙ ap (changed_at c.args.w.0 emptied) now)) (once_lost c.args.w.0 c.self.inside.workers.items c.self.invariant.once) })

pub returns-clause-stands : goal.returns-clause-stands
returns-clause-stands c sizes header past actor stands =
    let now : c.deref_mut.result.now ≡ c.args.self.now = search rules in
    let same = whole c.self.inside.workers.len c.lose_at.new.workers c.self.inside.workers.items (search rules) (search rules) in
    subst (λ ws. StandsInOrder sizes header (after_loss actor c.args.w past) ws) (sym (same ∙ c.lose_at.ensures ∙ ap (changed_at c.args.w.0 emptied) now))
    (loss_stands sizes header past c.args.self.now stands actor c.args.w)
