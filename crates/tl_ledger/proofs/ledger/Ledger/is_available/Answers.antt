use Rattle.std.proofs.Common.{◌≡◌, true, subst}
use Rattle.tl_model.specs.Journal.{Ledger}
use Rattle.tl_model.specs.Residency.{is_available}
use Rattle.tl_model.specs.Past.{without_tickets}
use Rattle.tl_model.specs.Rules.{all_permitted, lawful_judge}
use Rattle.tl_ledger.proofs.ledger.Ledger.is_available.Goals as goal

pub returns : goal.returns
returns g c =
    let journal = c.self.inside.journal in
    subst (λ (l : Ledger _). all_permitted lawful_judge l.header l.events ≡ true → c.is_available.result ≡ is_available (without_tickets l.events) c.args.file)
    c.self.view_is (λ ok. c.is_available.ensures journal.header (without_tickets journal.events) (c.self.invariant.1.stand ok))
