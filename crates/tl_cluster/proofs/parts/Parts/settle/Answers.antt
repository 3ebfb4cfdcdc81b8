use Rattle.std.proofs.Common.{◌≡◌, ◌+◌, true, refl, sym, subst}
use Rattle.tl_types.specs.Same.{actor_same-Decides}
use Rattle.tl_model.specs.Past.{without_tickets}
use Rattle.tl_model.specs.Rules.{last_actor_is}
use Rattle.tl_fleet.specs.Workers.{held_count}
use Rattle.tl_cluster.specs.Stands.{PartsState}
use Rattle.tl_cluster.specs.Turned.{Settled}
use Rattle.tl_cluster.proofs.Settling.{settled-more}
use Rattle.tl_cluster.proofs.parts.Parts.settle.Goals as goal

pub loop-actor-preserved : goal.loop-actor-preserved
loop-actor-preserved g c =
    let actor = c.args.actor in
    let before = c.loop-actor.self in
    let kept = c.loop-actor.invariant in
    let drop = c.drop_one.ensures.more c.loop-actor-test.true in
    let fewer = subst (λ (p : PartsState _). held_count p.workers + 1 ≡ held_count before.workers) drop.is drop.fewer in
    record {
      agrees = drop.agrees;
      last = subst (λ (p : PartsState _). last_actor_is (without_tickets p.events) actor ≡ true) (sym drop.is)
          ((actor_same-Decides actor actor).1 refl);
      settled = subst (λ (p : PartsState _). Settled actor c.args.self.now p) (sym drop.is)
          (settled-more g.T.Ticket.tells g.T.Ticket.content c.args.self.now before actor drop.drop kept.agrees drop.can fewer kept.settled);
    }
