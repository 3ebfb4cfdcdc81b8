use Rattle.std.proofs.Common.{◌∷◌, ◌++◌, sym, ◌∙◌}
use Rattle.tl_reading.specs.Acts.{about, deed_of, deed_text}
use Rattle.tl_reading.proofs.EventParts.{cut_actor, cut_deed, event_parts}
use Rattle.tl_reading.proofs.Stopping.{exit, stop_more}
use Rattle.tl_reading.proofs.event.event_said.Goals as goal

pub returns-in_default-deed_before-clause-none : goal.returns-in_default-deed_before-clause-none
returns-in_default-deed_before-clause-none c = λ event is e.
    c.in_default-deed_before.ensures.none (deed_of event.act) (about event.act)
    (cut_actor c.in-Some.actor event.actor c.in-Some.rest.now (deed_text (deed_of event.act) ++ 0x20 ∷ about event.act) c.in-Some.ensures.within is.0
    (sym c.in-Some.ensures.found ∙ e ∙ event_parts event)).1

pub returns-in_err-act-clause-none : goal.returns-in_err-act-clause-none
returns-in_err-act-clause-none c =
    exit c.from_residual.result c.in_err-act.field-0.0 _ c.from_residual.ensures.1
    (stop_more _ _ c.in_err-act.field-0.0
    (λ none event is e.
    let rest = (cut_actor c.in-Some.actor event.actor c.in-Some.rest.now (deed_text (deed_of event.act) ++ 0x20 ∷ about event.act) c.in-Some.ensures.within is.0
    (sym c.in-Some.ensures.found ∙ e ∙ event_parts event)).1 in
    let cut = cut_deed c.in-Some-deed_before.word (deed_of event.act) c.in-Some-deed_before.rest.now (about event.act) (sym c.in-Some-deed_before.ensures.found ∙ rest) in
    none event.act (sym cut.0) is.1 cut.1)
    c.in_err-act.ensures.none)
