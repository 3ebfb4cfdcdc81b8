use Rattle.std.proofs.Common.{refl, sym}
use Rattle.tl_model.specs.Past.{without_tickets}
use Rattle.tl_cluster.proofs.Steps.{permitted-numbered}
use Rattle.tl_cluster.proofs.parts.settling.drop_due.Goals as goal

pub returns-clause-due : goal.returns-clause-due
returns-clause-due g c = λ sizes stands.
    let ledger = c.args.ledger.now in
    sym (c.settle_one.ensures.due sizes ledger.header (without_tickets ledger.events)
    (permitted-numbered ledger.header ledger.events c.requires) (λ f. refl) stands)
