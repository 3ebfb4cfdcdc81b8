-- A lawful journal is ordered.
use Rattle.std.proofs.Common.{◌≡◌, true, List, sym, subst}
use Rattle.std.proofs.lemmas.Bool.{and_parts}
use Rattle.tl_model.specs.declared.event.Event.{Event}
use Rattle.tl_model.specs.declared.header.Header.{Header}
use Rattle.tl_model.specs.declared.record.Record.{Record}
use Rattle.tl_model.specs.Namespace.{Names}
use Rattle.tl_model.specs.Past.{without_tickets}
use Rattle.tl_model.specs.History.{names, records, names_of, calls_of}
use Rattle.tl_model.specs.Rules.{is_lawful, lawful_judge, all_permitted, is_quiet}
use Rattle.tl_laws.specs.Order.{IsOrdered}
use Rattle.tl_laws.proofs.Order.{all-ordered}
use Rattle.tl_laws.proofs.Tickets.{names-with, records-with}

pub lawful-ordered : {T : Type 0} (header : Header) (past : List (Event T)) → is_lawful header past ≡ true →
    IsOrdered (names (without_tickets past)) (records (without_tickets past))
lawful-ordered header past lawful =
    let ordered = all-ordered lawful_judge header past (and_parts (all_permitted lawful_judge header past) (is_quiet lawful_judge past) lawful).0 in
    let P : Names → Type 0 = λ ns. IsOrdered ns (records (without_tickets past)) in
    let Q : List Record → Type 0 = λ rs. IsOrdered (names_of (calls_of past)) rs in
    subst P (sym (names-with (λ _. tt) past)) (subst Q (sym (records-with (λ _. tt) past)) ordered)
