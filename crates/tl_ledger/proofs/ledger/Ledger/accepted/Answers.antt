use Rattle.std.proofs.Common.{List, length, sym, ap, ◌∙◌}
use Rattle.tl_model.specs.declared.record.Record.{Record}
use Rattle.tl_model.specs.History.{records}
use Rattle.tl_model.specs.Journal.{Ledger}
use Rattle.tl_model.specs.Past.{without_tickets}
use Rattle.tl_laws.proofs.Tickets.{records-with}
use Rattle.tl_ledger.proofs.ledger.Ledger.accepted.Goals as goal

pub returns : goal.returns
returns g c =
    c.self.invariant.0.counted
    ∙ sym (ap (λ (rs : List Record). length rs) (records-with (λ _. tt) c.self.inside.journal.events))
    ∙ ap (λ (l : Ledger _). length (records (without_tickets l.events))) c.self.view_is
