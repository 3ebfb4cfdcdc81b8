use Rattle.std.proofs.Common.{◌≡◌, true, None, if◌then◌else◌, ◌∙◌, subst}
use Rattle.std.specs.Option.{option_copied}
use Rattle.tl_model.specs.History.{record_at}
use Rattle.tl_model.specs.Journal.{Ledger}
use Rattle.tl_model.specs.Past.{without_tickets}
use Rattle.tl_model.specs.Residency.{is_kept}
use Rattle.tl_model.specs.Rules.{all_permitted, lawful_judge}
use Rattle.tl_ledger.proofs.Follow.{record-kept}
use Rattle.tl_ledger.proofs.ledger.Ledger.record.Goals as goal

pub returns : goal.returns
returns g c =
    subst (λ (l : Ledger _). all_permitted lawful_judge l.header l.events ≡ true → option_copied c.record.result
    ≡ (if is_kept (without_tickets l.events) c.args.made then record_at (without_tickets l.events) c.args.made else None)) c.self.view_is
    (λ ok. c.record.ensures
    ∙ record-kept c.self.inside.journal.header c.self.inside.journal.events c.args.made c.self.inside.parts.graph.slots c.self.invariant.1.slots ok)
