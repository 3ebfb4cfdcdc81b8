use Rattle.std.proofs.Common.{ℕ, List, ap}
use Rattle.tl_core.specs.State.{State}
use Rattle.tl_client.proofs.Asking.{called-rest, called-same}
use Rattle.tl_client.proofs.names.ask.Goals as goal

pub returns-clause-rest : goal.returns-clause-rest
returns-clause-rest c =
    called-rest c.args.actor c.into_command.result c.in_ok-at.reply c.args.cluster.now.events c.call.new.self.events c.into_command.ensures.no_read c.into_command.ensures.no_put
    (ap (λ (s : State (List ℕ)). s.events) c.in_ok-at.ensures.ok.2) c.requires.rest

pub returns-clause-same : goal.returns-clause-same
returns-clause-same c =
    called-same c.args.actor c.into_command.result c.in_ok-at.reply c.args.cluster.now.events c.call.new.self.events c.into_command.ensures.no_read c.into_command.ensures.no_put
    (ap (λ (s : State (List ℕ)). s.events) c.in_ok-at.ensures.ok.2)
