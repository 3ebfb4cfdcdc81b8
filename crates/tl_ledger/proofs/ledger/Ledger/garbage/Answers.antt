use Rattle.std.proofs.Common.{◌≡◌, true, subst}
use Rattle.tl_model.specs.Journal.{Ledger}
use Rattle.tl_model.specs.Needs.{garbage}
use Rattle.tl_model.specs.Past.{without_tickets}
use Rattle.tl_model.specs.Rules.{all_permitted, lawful_judge}
use Rattle.tl_ledger.proofs.ledger.Ledger.garbage.Goals as goal

pub returns-clause-garbage : goal.returns-clause-garbage
returns-clause-garbage g c =
    let journal = c.self.inside.journal in
    subst (λ (l : Ledger _). all_permitted lawful_judge l.header l.events ≡ true → c.garbage.result ≡ garbage (without_tickets l.events))
    c.self.view_is (λ ok. c.garbage.ensures.garbage journal.header (without_tickets journal.events) (c.self.invariant.1.stand ok))
