use Rattle.std.proofs.Common.{subst}
use Rattle.tl_cluster.specs.Called.{Called}
use Rattle.tl_cluster.specs.State.{State}
use Rattle.tl_cluster.proofs.Answering.{called-turn, last-is}
use Rattle.tl_cluster.proofs.Turning.{state_of}
use Rattle.tl_cluster.proofs.cluster.Cluster.call.Goals as goal

pub settle-requires-clause-last : goal.settle-requires-clause-last
settle-requires-clause-last g c =
    last-is c.self.inside.parts c.call.new.self c.args.actor c.args.command c.in_ok-answer.answer c.in_ok-answer.ensures.answered

pub returns-clause-ok : goal.returns-clause-ok
returns-clause-ok g c =
    subst (λ (s : State _). Called s (state_of c.settle.new.self) c.args.actor c.args.command c.in_ok-answer.answer) c.self.view_is
    (called-turn c.self.inside.parts c.call.new.self c.settle.new.self c.args.actor c.args.command c.in_ok-answer.answer
    c.in_ok-answer.ensures.answered c.settle.ensures.settled)
