use Rattle.std.proofs.Common.{◌≡◌, Some, sym, ap, ◌∙◌, subst}
use Rattle.tl_core.specs.Taken.{IsTaken}
use Rattle.tl_model.specs.Journal.{Ledger}
use Rattle.tl_model.specs.Past.{without_tickets}
use Rattle.tl_model.specs.Plan.{next}
use Rattle.tl_core.proofs.Taking.{permitted}
use Rattle.tl_core.proofs.feeds.take_up.Goals as goal

pub take-requires-clause-next : goal.take-requires-clause-next
take-requires-clause-next g c =
    let header = c.args.ledger.now.header in
    let events = c.args.ledger.now.events in
    subst (λ (l : Ledger _). next l.header.order (without_tickets l.events) ≡ Some c.in-Some.made) (sym c.next.ensures.same)
    (sym (c.next.ensures.next (permitted header events c.requires.lawful)) ∙ c.in-Some.is)

pub returns-in_ok-take-in-Some-clause-taken : goal.returns-in_ok-take-in-Some-clause-taken
returns-in_ok-take-in-Some-clause-taken g c =
    let header = c.args.ledger.now.header in
    let events = c.args.ledger.now.events in
    let said : next header.order (without_tickets events) ≡ Some c.in-Some.made =
    sym (c.next.ensures.next (permitted header events c.requires.lawful)) ∙ c.in-Some.is in (
      said ∙ ap Some (sym c.in_ok-take-in-Some.ensures.rec),
      subst (λ (l : Ledger _). IsTaken g.T.Ticket.content l.events c.args.residents.now c.in_ok-take-in-Some.field-0) c.next.ensures.same c.in_ok-take-in-Some.ensures.taken,
    )
