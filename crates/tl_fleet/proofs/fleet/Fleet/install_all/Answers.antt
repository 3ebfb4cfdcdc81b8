use Rattle.std.proofs.Common.{rules, ◌≡◌, ◌∙◌, ◌<◌, length, ap, subst, sym}
use Rattle.tl_fleet.proofs.Changes.{whole, on_either}
use Rattle.tl_fleet.proofs.Several.{done_stands}
use Rattle.tl_fleet.proofs.Together.{once_each}
use Rattle.tl_fleet.specs.Events.{after_done, installed_each}
use Rattle.tl_fleet.specs.Installs.{AreAbsent}
use Rattle.tl_fleet.specs.Order.{StandsInOrder}
use Rattle.tl_fleet.specs.Workers.{IsFleet, IsOnce}
use Rattle.tl_fleet.proofs.fleet.Fleet.install_all.Goals as goal
use Rattle.tl_fleet.proofs.fleet.Fleet.install_all.Goals.{in-Ok, in-Err}

pub invariant_of-self : goal.invariant_of-self
invariant_of-self c =
    let now : c.deref_mut.result.now ≡ c.self.inside.workers.items = search rules in
    let lent : c.deref.result.now ≡ c.args.blocks.items = search rules in
    let few : length c.install_copies.new.workers < 256 = search rules in
    let same = whole c.self.inside.workers.len c.install_copies.new.workers c.self.inside.workers.items (search rules) (search rules) in
    subst IsFleet (sym same) (record {
      few = few;
      once = on_either c.install_copies.result c.install_copies.ensures.ok c.install_copies.ensures.err
          (λ ok. subst IsOnce (sym (ok ∙ ap (λ bs. installed_each c.args.w bs c.deref_mut.result.now) lent ∙ ap (installed_each c.args.w c.args.blocks.items) now)) (once_each c.args.w c.args.blocks.items c.self.inside.workers.items (subst (AreAbsent c.args.blocks.items) (sym c.self.view_is) c.requires.absent) c.requires.ascending c.self.invariant.once))
          (λ err. subst IsOnce (sym (err ∙ now)) c.self.invariant.once);
    })

pub returns-clause-stands : goal.returns-clause-stands
returns-clause-stands c sizes header past actor made stands just long =
    let now : c.deref_mut.result.now ≡ c.args.self.now = search rules in
    let lent : c.deref.result.now ≡ c.args.blocks.items = search rules in
    let same = whole c.self.inside.workers.len c.install_copies.new.workers c.self.inside.workers.items (search rules) (search rules) in
    let P = StandsInOrder sizes header (after_done actor c.args.w made past) in
    elim c.match-install_copies.branch [
      | in-Ok w ↦ rw w.result-is
          (subst P (sym (same ∙ w.in-Ok.ensures.ok ∙ ap (λ bs. installed_each c.args.w bs c.deref_mut.result.now) lent ∙ ap (installed_each c.args.w c.args.blocks.items) now))
          (done_stands sizes header past actor c.args.w made c.args.blocks.items c.args.self.now stands (subst (λ n. c.args.w.0 < n) stands.0 c.requires.worker) c.requires.ascending just long))
      | in-Err w ↦ rw w.result-is tt
    ]
