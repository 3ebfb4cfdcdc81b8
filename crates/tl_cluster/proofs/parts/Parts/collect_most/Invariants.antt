use Rattle.std.proofs.Common.{◌-◌}
use Rattle.tl_cluster.specs.Collected.{HasRoomToCollect, LetGo}
use Rattle.tl_cluster.specs.Jobs.{state_of}
use Rattle.tl_cluster.specs.Stands.{Stands}
use Rattle.tl_cluster.proofs.parts.Parts.collect_most.Given as goal

abbrev pub invariant-loop-count : goal.invariant-loop-count
invariant-loop-count g l = record {
  stands : Stands g.T.Ticket.tells g.T.Ticket.content l.self;
  gone : LetGo l.actor l.count (state_of l.fn.self) (state_of l.self);
  room : HasRoomToCollect (l.n - l.count) l.self;
}
