use Rattle.std.proofs.Common.{rules, ◌≡◌, ◌∙◌, ◌<◌, length, ap, subst, sym}
use Rattle.tl_fleet.proofs.Changes.{whole}
use Rattle.tl_fleet.specs.Workers.{IsFleet, IsOnce, all_without}
use Rattle.tl_fleet.specs.Events.{after_free}
use Rattle.tl_fleet.specs.Order.{StandsInOrder}
use Rattle.tl_fleet.proofs.Events.{free_stands}
use Rattle.tl_fleet.proofs.Once.{once_without}
use Rattle.tl_fleet.proofs.fleet.Fleet.free.Goals as goal

pub invariant_of-self : goal.invariant_of-self
invariant_of-self c =
    let now : c.deref_mut.result.now ≡ c.self.inside.workers.items = search rules in
    let few : length c.free_all.new.workers < 256 = search rules in
    let same = whole c.self.inside.workers.len c.free_all.new.workers c.self.inside.workers.items (search rules) (search rules) in
    subst IsFleet (sym same) (record { few = few; once = subst IsOnce (sym (c.free_all.ensures ∙ ap (all_without c.args.f) now)) (once_without c.args.f c.self.inside.workers.items c.self.invariant.once) })

pub returns-clause-stands : goal.returns-clause-stands
returns-clause-stands c sizes header past actor stands =
    let now : c.deref_mut.result.now ≡ c.args.self.now = search rules in
    let same = whole c.self.inside.workers.len c.free_all.new.workers c.self.inside.workers.items (search rules) (search rules) in
    subst (λ ws. StandsInOrder sizes header (after_free actor c.args.f past) ws) (sym (same ∙ c.free_all.ensures ∙ ap (all_without c.args.f) now))
    (free_stands sizes header past c.args.self.now stands actor c.args.f)
