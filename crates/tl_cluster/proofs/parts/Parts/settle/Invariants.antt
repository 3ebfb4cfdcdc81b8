use Rattle.std.proofs.Common.{◌≡◌, true}
use Rattle.tl_model.specs.Past.{without_tickets}
use Rattle.tl_model.specs.Rules.{last_actor_is}
use Rattle.tl_fleet.specs.Workers.{held_count}
use Rattle.tl_cluster.specs.Stands.{Agrees}
use Rattle.tl_cluster.specs.Turned.{Settled}
use Rattle.tl_cluster.proofs.parts.Parts.settle.Given as goal

abbrev pub invariant-loop-actor : goal.invariant-loop-actor
invariant-loop-actor g l = record {
  agrees : Agrees g.T.Ticket.tells g.T.Ticket.content l.self;
  last : last_actor_is (without_tickets l.self.events) l.actor ≡ true;
  settled : Settled l.actor l.fn.self l.self;
}

abbrev pub decreases-loop-actor : goal.decreases-loop-actor
decreases-loop-actor g l = held_count l.self.workers
