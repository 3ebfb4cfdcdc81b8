use Rattle.std.proofs.Common.{rules, ◌≡◌, ◌∙◌, ◌<◌, length, ap, subst, sym}
use Rattle.tl_fleet.proofs.Changes.{whole}
use Rattle.tl_fleet.specs.Workers.{IsFleet, IsOnce, all_touched}
use Rattle.tl_fleet.proofs.Once.{once_touched}
use Rattle.tl_fleet.specs.Order.{StandsInOrder}
use Rattle.tl_fleet.specs.Events.{after_served}
use Rattle.tl_fleet.proofs.Events.{served_stands}
use Rattle.tl_fleet.proofs.fleet.Fleet.touch.Goals as goal

pub invariant_of-self : goal.invariant_of-self
invariant_of-self c =
    let now : c.deref_mut.result.now ≡ c.self.inside.workers.items = search rules in
    let few : length c.touch_all.new.workers < 256 = search rules in
    let same = whole c.self.inside.workers.len c.touch_all.new.workers c.self.inside.workers.items (search rules) (search rules) in
    subst IsFleet (sym same) (record { few = few; once = subst IsOnce (sym (c.touch_all.ensures ∙ ap (all_touched c.args.f) now)) (once_touched c.args.f c.self.inside.workers.items c.self.invariant.once) })

pub returns-clause-stands : goal.returns-clause-stands
returns-clause-stands c sizes header past actor digest stands =
    let now : c.deref_mut.result.now ≡ c.args.self.now = search rules in
    let same = whole c.self.inside.workers.len c.touch_all.new.workers c.self.inside.workers.items (search rules) (search rules) in
    subst (λ ws. StandsInOrder sizes header (after_served actor c.args.f digest past) ws) (sym (same ∙ c.touch_all.ensures ∙ ap (all_touched c.args.f) now))
    (served_stands sizes header past c.args.self.now stands actor c.args.f digest)
