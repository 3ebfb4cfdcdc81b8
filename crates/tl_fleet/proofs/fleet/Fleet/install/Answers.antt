use Rattle.std.proofs.Common.{rules, ◌≡◌, ◌∙◌, ◌<◌, false, length, ap, subst, sym}
use Rattle.tl_fleet.proofs.Changes.{whole, on_either}
use Rattle.tl_fleet.specs.Workers.{IsFleet, IsOnce, is_resident, changed_at, with_blocks, put_front}
use Rattle.tl_fleet.proofs.Once.{once_installed}
use Rattle.tl_fleet.specs.Order.{StandsInOrder}
use Rattle.tl_fleet.specs.Events.{after_load}
use Rattle.tl_fleet.proofs.Changes.{on_ok}
use Rattle.tl_fleet.proofs.Events.{load_stands}
use Rattle.tl_fleet.proofs.fleet.Fleet.install.Goals as goal

pub invariant_of-self : goal.invariant_of-self
invariant_of-self c =
    let now : c.deref_mut.result.now ≡ c.self.inside.workers.items = search rules in
    let few : length c.install_at.new.workers < 256 = search rules in
    let same = whole c.self.inside.workers.len c.install_at.new.workers c.self.inside.workers.items (search rules) (search rules) in
    subst IsFleet (sym same) (record {
      few = few;
      once = on_either c.install_at.result c.install_at.ensures.ok c.install_at.ensures.err
          (λ ok. subst IsOnce (sym (ok ∙ ap (changed_at c.args.w.0 (with_blocks (put_front c.args.block))) now)) (once_installed c.args.w.0 c.args.block c.self.inside.workers.items (subst (λ ws. is_resident c.args.block.file ws ≡ false) (sym c.self.view_is) c.requires.absent) c.self.invariant.once))
          (λ err. subst IsOnce (sym (err ∙ now)) c.self.invariant.once);
    })

pub returns-clause-stands : goal.returns-clause-stands
returns-clause-stands c sizes header past actor stands of =
    let now : c.deref_mut.result.now ≡ c.args.self.now = search rules in
    let same = whole c.self.inside.workers.len c.install_at.new.workers c.self.inside.workers.items (search rules) (search rules) in
    on_ok c.install_at.result c.install_at.ensures.ok (λ ok.
    subst (λ ws. StandsInOrder sizes header (after_load actor c.args.w c.args.block.file past) ws) (sym (same ∙ ok ∙ ap (changed_at c.args.w.0 (with_blocks (put_front c.args.block))) now))
    (load_stands sizes header past c.args.self.now stands actor c.args.w c.args.block c.requires.worker c.requires.absent of))
