use Rattle.std.proofs.Common.{subst}
use Rattle.tl_model.specs.History.{calls_of}
use Rattle.tl_model.specs.Journal.{Ledger}
use Rattle.tl_names.specs.Answers.{IsNamesOf}
use Rattle.tl_ledger.proofs.ledger.Ledger.names.Goals as goal

pub returns : goal.returns
returns g c =
    subst (λ (l : Ledger _). IsNamesOf c.self.inside.names (calls_of l.events)) c.self.view_is c.self.invariant.0.names
