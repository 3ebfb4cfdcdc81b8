use Rattle.std.proofs.Common.{rules, ◌≡◌, ◌∙◌, ◌<◌, length, ap, subst, sym}
use Rattle.tl_fleet.proofs.Changes.{whole}
use Rattle.tl_fleet.proofs.Several.{claim_stands}
use Rattle.tl_fleet.proofs.Used.{once_used}
use Rattle.tl_fleet.specs.Events.{after_claim, touched_each}
use Rattle.tl_fleet.specs.Order.{StandsInOrder}
use Rattle.tl_fleet.specs.Workers.{IsFleet, IsOnce}
use Rattle.tl_fleet.proofs.fleet.Fleet.touch_each.Goals as goal

pub invariant_of-self : goal.invariant_of-self
invariant_of-self c =
    let now : c.deref_mut.result.now ≡ c.self.inside.workers.items = search rules in
    let few : length c.touch_files.new.workers < 256 = search rules in
    let same = whole c.self.inside.workers.len c.touch_files.new.workers c.self.inside.workers.items (search rules) (search rules) in
    subst IsFleet (sym same) (record { few = few; once = subst IsOnce (sym (c.touch_files.ensures ∙ ap (touched_each c.args.files.now) now)) (once_used c.args.files.now c.self.inside.workers.items c.self.invariant.once) })

pub returns-clause-stands : goal.returns-clause-stands
returns-clause-stands c sizes header past actor w made stands ascends just =
    let now : c.deref_mut.result.now ≡ c.args.self.now = search rules in
    let same = whole c.self.inside.workers.len c.touch_files.new.workers c.self.inside.workers.items (search rules) (search rules) in
    subst (λ ws. StandsInOrder sizes header (after_claim actor w made past) ws) (sym (same ∙ c.touch_files.ensures ∙ ap (touched_each c.args.files.now) now))
    (claim_stands sizes header past actor w made c.args.files.now c.args.self.now stands ascends just)
