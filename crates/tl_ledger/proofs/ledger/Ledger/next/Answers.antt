use Rattle.std.proofs.Common.{◌≡◌, true, ◌∙◌, ap, subst}
use Rattle.tl_model.specs.declared.header.OrderRule.{OrderRule}
use Rattle.tl_model.specs.Journal.{Ledger}
use Rattle.tl_model.specs.Past.{without_tickets}
use Rattle.tl_model.specs.Plan.{next}
use Rattle.tl_model.specs.Rules.{all_permitted, lawful_judge}
use Rattle.tl_ledger.proofs.ledger.Ledger.next.Goals as goal

pub returns-clause-next : goal.returns-clause-next
returns-clause-next g c =
    let journal = c.self.inside.journal in
    let past = without_tickets journal.events in
    subst (λ (l : Ledger _). all_permitted lawful_judge l.header l.events ≡ true → c.next.result ≡ next l.header.order (without_tickets l.events)) c.self.view_is
    (λ ok. c.next.ensures.next journal.header past (c.self.invariant.1.stand ok) ∙ ap (λ (rule : OrderRule). next rule past) c.self.invariant.1.rule)
