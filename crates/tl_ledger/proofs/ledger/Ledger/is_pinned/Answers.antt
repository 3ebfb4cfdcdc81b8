use Rattle.std.proofs.Common.{length, ◌∙◌, ap, sym}
use Rattle.std.specs.List.{list_any}
use Rattle.tl_model.specs.History.{calls_of, is_pinned, names_of, records_of}
use Rattle.tl_model.specs.Journal.{Ledger}
use Rattle.tl_model.specs.Namespace.{Names}
use Rattle.tl_model.specs.Past.{without_tickets}
use Rattle.tl_names.specs.Pins.{pins_file}
use Rattle.tl_laws.proofs.Tickets.{names-with}
use Rattle.tl_ledger.proofs.ledger.Ledger.is_pinned.Goals as goal

pub returns : goal.returns
returns g c =
    let events = c.self.inside.journal.events in
    let calls = calls_of events in
    c.is_pinned.ensures (names_of calls) (length (records_of calls)) c.self.invariant.0.names.pins
    ∙ ap (λ (names : Names). list_any (pins_file c.args.file) names) (sym (names-with (λ _. tt) events))
    ∙ ap (λ (l : Ledger _). is_pinned (without_tickets l.events) c.args.file) c.self.view_is
