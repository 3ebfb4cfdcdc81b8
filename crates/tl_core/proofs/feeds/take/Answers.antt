use Rattle.std.proofs.Common.{◌≡◌, true, false, List, Option, Some, None, if◌then◌else◌, reverse, sym, ap, ◌∙◌, subst}
use Rattle.std.specs.Option.{option_copied}
use Rattle.tl_types.specs.declared.file_id.FileId.{FileId}
use Rattle.tl_model.specs.declared.event.Event.{Event}
use Rattle.tl_model.specs.declared.record.Record.{Record}
use Rattle.tl_model.specs.declared.record.Record.TheVariants as kind
use Rattle.tl_model.specs.History.{id_of, inputs_of, is_job, record_at}
use Rattle.tl_model.specs.Past.{without_tickets}
use Rattle.tl_model.specs.Residency.{all_available}
use Rattle.tl_core.specs.Taken.{AreFedBy, AreSupplied}
use Rattle.tl_core.proofs.Taking.{next-record, supplied}
use Rattle.tl_core.proofs.feeds.take.Goals as goal

pub feeds-requires : goal.feeds-requires
feeds-requires g c =
    let header = c.args.ledger.now.header in
    let events = c.args.ledger.now.events in
    let it = next-record header events c.args.made c.requires.lawful c.requires.next in
    let same : Some c.in-Some-Job.field-0.now ≡ Some it.it = ap option_copied (sym c.in-Some-Job.is) ∙ it.found c.record.result c.record.ensures in
    let job : kind.Job c.in-Some-Job.field-0-0 c.in-Some-Job.core c.in-Some-Job.field-0-2 c.in-Some-Job.inputs c.in-Some-Job.field-0-4 ≡ it.it =
    sym c.in-Some-Job.field-0-is ∙ (let e : c.in-Some-Job.field-0.now ≡ it.it = cc in e) in
    let fed : all_available (without_tickets events) c.in-Some-Job.inputs ≡ true =
    ap (λ (r : Record). all_available (without_tickets events) (inputs_of r)) job ∙ it.fed in
    subst (λ (fs : List FileId). AreSupplied (reverse c.events.result.now) c.args.residents.now fs) (sym c.as_slice.ensures)
    (subst (λ (es : List (Event _)). AreSupplied es c.args.residents.now c.in-Some-Job.inputs) (sym c.events.ensures)
    (supplied events c.args.residents.now c.in-Some-Job.inputs c.requires.supplies fed))

pub unreachable-requires : goal.unreachable-requires
unreachable-requires g c =
    let it = next-record c.args.ledger.now.header c.args.ledger.now.events c.args.made c.requires.lawful c.requires.next in
    let same : Some c.in-Some-Put.field-0.now ≡ Some it.it = ap option_copied (sym c.in-Some-Put.is) ∙ it.found c.record.result c.record.ensures in
    let put : it.it ≡ kind.Put c.in-Some-Put.field-0-0 = (let e : it.it ≡ c.in-Some-Put.field-0.now = cc in e) ∙ c.in-Some-Put.field-0-is in
    let no : true ≡ false = sym it.job ∙ ap is_job put in
    absurd (cc)

pub unreachable-requires-in-None : goal.unreachable-requires-in-None
unreachable-requires-in-None g c =
    let it = next-record c.args.ledger.now.header c.args.ledger.now.events c.args.made c.requires.lawful c.requires.next in
    let none : None ≡ Some it.it = ap option_copied (sym c.in-None.is) ∙ it.found c.record.result c.record.ensures in
    absurd (cc)

pub returns-clause-taken : goal.returns-clause-taken
returns-clause-taken g c =
    let header = c.args.ledger.now.header in
    let events = c.args.ledger.now.events in
    let it = next-record header events c.args.made c.requires.lawful c.requires.next in
    let same : Some c.in-Some-Job.field-0.now ≡ Some it.it = ap option_copied (sym c.in-Some-Job.is) ∙ it.found c.record.result c.record.ensures in
    let job : it.it ≡ kind.Job c.in-Some-Job.field-0-0 c.in-Some-Job.core c.in-Some-Job.field-0-2 c.in-Some-Job.inputs c.in-Some-Job.field-0-4 =
    (let e : it.it ≡ c.in-Some-Job.field-0.now = cc in e) ∙ c.in-Some-Job.field-0-is in
    let number : c.in-Some-Job.field-0-0 ≡ c.args.made = sym (ap id_of job) ∙ it.id in
    let core : c.in-Some-Job.core ≡ c.in_ok-try_clone-in-Some-Job.field-0 = sym c.in_ok-try_clone-in-Some-Job.ensures in (
      c.in-Some-Job.field-0-2,
      c.in-Some-Job.inputs,
      c.in-Some-Job.field-0-4,
      it.at ∙ ap Some job ∙ (λ i. Some (kind.Job (number i) (core i) c.in-Some-Job.field-0-2 c.in-Some-Job.inputs c.in-Some-Job.field-0-4)),
      subst (λ (fs : List FileId). AreFedBy g.T.Ticket.content events c.args.residents.now fs c.in_ok-feeds-in-Some-Job.field-0.items) c.as_slice.ensures
          (subst (λ (es : List (Event _)). AreFedBy g.T.Ticket.content es c.args.residents.now c.as_slice.result.now c.in_ok-feeds-in-Some-Job.field-0.items)
          c.events.ensures c.in_ok-feeds-in-Some-Job.ensures),
    )
