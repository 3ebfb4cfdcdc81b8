use Rattle.std.proofs.Common.{rules, ◌≡◌, ◌∙◌, ◌<◌, length, Some, ap, subst, sym}
use Rattle.tl_fleet.proofs.Changes.{whole}
use Rattle.tl_store.specs.Contents.{without}
use Rattle.tl_fleet.specs.Workers.{IsFleet, IsOnce, changed_at, with_blocks, first_to_drop}
use Rattle.tl_fleet.proofs.Once.{once_dropped}
use Rattle.tl_fleet.proofs.Settles.{same_due}
use Rattle.tl_fleet.specs.Order.{StandsInOrder}
use Rattle.tl_fleet.specs.Events.{after_drop}
use Rattle.tl_fleet.proofs.Events.{drop_stands}
use Rattle.tl_fleet.proofs.fleet.Fleet.settle_one.Goals as goal

pub invariant_of-self : goal.invariant_of-self
invariant_of-self g c =
    let now : c.deref_mut.result.now ≡ c.self.inside.workers.items = search rules in
    let few : length c.remove_at.new.workers < 256 = search rules in
    let same = whole c.self.inside.workers.len c.remove_at.new.workers c.self.inside.workers.items (search rules) (search rules) in
    subst IsFleet (sym same) (record { few = few; once = subst IsOnce (sym (c.remove_at.ensures ∙ ap (changed_at c.in_ok-w.w.0 (with_blocks (without c.in_ok-w.f))) now)) (once_dropped c.in_ok-w.w.0 c.in_ok-w.f c.self.inside.workers.items c.self.invariant.once) })

pub returns-in_err-w-clause-due : goal.returns-in_err-w-clause-due
returns-in_err-w-clause-due g c sizes header past numbered just stands =
    let first : c.from_residual.result ≡ first_to_drop (g.X.Excepted.excepted c.args.x.now) c.args.self.now = search rules in
    first ∙ same_due sizes header past (g.X.Excepted.excepted c.args.x.now) c.args.self.now numbered just stands

pub returns-clause-due : goal.returns-clause-due
returns-clause-due g c sizes header past numbered just stands =
    let first : Some (c.in_ok-w.w, c.in_ok-w.f) ≡ first_to_drop (g.X.Excepted.excepted c.args.x.now) c.args.self.now = search rules in
    first ∙ same_due sizes header past (g.X.Excepted.excepted c.args.x.now) c.args.self.now numbered just stands

pub returns-clause-stands : goal.returns-clause-stands
returns-clause-stands g c sizes header past actor stands =
    let now : c.deref_mut.result.now ≡ c.args.self.now = search rules in
    let same = whole c.self.inside.workers.len c.remove_at.new.workers c.self.inside.workers.items (search rules) (search rules) in
    subst (λ ws. StandsInOrder sizes header (after_drop actor (c.in_ok-w.w, c.in_ok-w.f) past) ws) (sym (same ∙ c.remove_at.ensures ∙ ap (changed_at c.in_ok-w.w.0 (with_blocks (without c.in_ok-w.f))) now))
    (drop_stands sizes header past c.args.self.now stands actor (c.in_ok-w.w, c.in_ok-w.f))
