use Rattle.std.proofs.Common.{◌≡◌, true, false, if◌then◌else◌, List, length, Some, None, refl, sym, ap, ◌∙◌, subst}
use Rattle.std.specs.List.{AllByRecursion}
use Rattle.std.specs.Option.{option_copied}
use Rattle.tl_types.specs.declared.file_id.FileId.{FileId}
use Rattle.tl_model.specs.declared.record.Record.{Record}
use Rattle.tl_model.specs.declared.record.Record.TheVariants as kind
use Rattle.tl_model.specs.History.{id_of, inputs_of, is_job, record_at}
use Rattle.tl_model.specs.Past.{Past, without_tickets}
use Rattle.tl_model.specs.Residency.{all_available, claim_reads, is_available, is_kept}
use Rattle.tl_model.specs.Rules.{all_permitted, lawful_judge}
use Rattle.tl_fleet.specs.Events.{among}
use Rattle.tl_cluster.specs.Jobs.{state_of}
use Rattle.tl_cluster.specs.Stands.{PartsState}
use Rattle.tl_cluster.specs.Works.{AreFed}
use Rattle.tl_cluster.proofs.Feeding.{each-available, next-record, sound-of}
use Rattle.tl_cluster.proofs.parts.Parts.take.Goals as goal

pub feeds-requires-clause-available : goal.feeds-requires-clause-available
feeds-requires-clause-available g c =
    let now : PartsState _ = c.args.self.now in
    let past : Past = without_tickets now.events in
    let said = subst (λ (p : PartsState _). all_permitted lawful_judge p.header p.events ≡ true →
    option_copied c.record.result ≡ (if is_kept (without_tickets p.events) c.args.made then record_at (without_tickets p.events) c.args.made else None))
    c.self.view_is c.record.ensures in
    let it = next-record now.header now.events c.args.made c.requires.stands.agrees.lawful c.requires.next in
    let same : Some c.in-Some-Job.field-0.now ≡ Some it.it = ap option_copied (sym c.in-Some-Job.is) ∙ it.found c.record.result said in
    let job : kind.Job c.in-Some-Job.field-0-0 c.in-Some-Job.core c.in-Some-Job.field-0-2 c.in-Some-Job.inputs c.in-Some-Job.field-0-4 ≡ it.it =
    sym c.in-Some-Job.field-0-is ∙ (let e : c.in-Some-Job.field-0.now ≡ it.it = cc in e) in
    let fed : all_available past c.in-Some-Job.inputs ≡ true = ap (λ (r : Record). all_available past (inputs_of r)) job ∙ it.fed in
    subst (λ (fs : List FileId). AllByRecursion (λ f. is_available past f ≡ true) fs) (sym c.as_slice.ensures) (each-available past c.in-Some-Job.inputs fed)

pub unreachable-requires : goal.unreachable-requires
unreachable-requires g c =
    let now : PartsState _ = c.args.self.now in
    let said = subst (λ (p : PartsState _). all_permitted lawful_judge p.header p.events ≡ true →
    option_copied c.record.result ≡ (if is_kept (without_tickets p.events) c.args.made then record_at (without_tickets p.events) c.args.made else None))
    c.self.view_is c.record.ensures in
    let it = next-record now.header now.events c.args.made c.requires.stands.agrees.lawful c.requires.next in
    let same : Some c.in-Some-Put.field-0.now ≡ Some it.it = ap option_copied (sym c.in-Some-Put.is) ∙ it.found c.record.result said in
    let put : it.it ≡ kind.Put c.in-Some-Put.field-0-0 = (let e : it.it ≡ c.in-Some-Put.field-0.now = cc in e) ∙ c.in-Some-Put.field-0-is in
    let no : true ≡ false = sym it.job ∙ ap is_job put in
    absurd (cc)

pub unreachable-requires-in-None : goal.unreachable-requires-in-None
unreachable-requires-in-None g c =
    let now : PartsState _ = c.args.self.now in
    let said = subst (λ (p : PartsState _). all_permitted lawful_judge p.header p.events ≡ true →
    option_copied c.record.result ≡ (if is_kept (without_tickets p.events) c.args.made then record_at (without_tickets p.events) c.args.made else None))
    c.self.view_is c.record.ensures in
    let it = next-record now.header now.events c.args.made c.requires.stands.agrees.lawful c.requires.next in
    let none : None ≡ Some it.it = ap option_copied (sym c.in-None.is) ∙ it.found c.record.result said in
    absurd (cc)

pub returns : goal.returns
returns g c =
    let now : PartsState _ = c.args.self.now in
    let past : Past = without_tickets now.events in
    let tells = g.T.Ticket.tells in
    let content = g.T.Ticket.content in
    let said = subst (λ (p : PartsState _). all_permitted lawful_judge p.header p.events ≡ true →
    option_copied c.record.result ≡ (if is_kept (without_tickets p.events) c.args.made then record_at (without_tickets p.events) c.args.made else None))
    c.self.view_is c.record.ensures in
    let it = next-record now.header now.events c.args.made c.requires.stands.agrees.lawful c.requires.next in
    let same : Some c.in-Some-Job.field-0.now ≡ Some it.it = ap option_copied (sym c.in-Some-Job.is) ∙ it.found c.record.result said in
    let job : it.it ≡ kind.Job c.in-Some-Job.field-0-0 c.in-Some-Job.core c.in-Some-Job.field-0-2 c.in-Some-Job.inputs c.in-Some-Job.field-0-4 =
    (let e : it.it ≡ c.in-Some-Job.field-0.now = cc in e) ∙ c.in-Some-Job.field-0-is in
    let number : c.in-Some-Job.field-0-0 ≡ c.args.made = sym (ap id_of job) ∙ it.id in
    let core : c.in-Some-Job.core ≡ c.in_ok-try_clone-in-Some-Job.field-0 = sym c.in_ok-try_clone-in-Some-Job.ensures in
    let at : record_at past c.args.made
    ≡ Some (kind.Job c.args.made c.in_ok-try_clone-in-Some-Job.field-0 c.in-Some-Job.field-0-2 c.in-Some-Job.inputs c.in-Some-Job.field-0-4) =
    it.at ∙ ap Some job ∙ (λ i. Some (kind.Job (number i) (core i) c.in-Some-Job.field-0-2 c.in-Some-Job.inputs c.in-Some-Job.field-0-4)) in
    let sound = sound-of tells content now c.args.made
    (kind.Job c.args.made c.in_ok-try_clone-in-Some-Job.field-0 c.in-Some-Job.field-0-2 c.in-Some-Job.inputs c.in-Some-Job.field-0-4) c.requires.stands at in
    record {
      is_next = c.requires.next;
      for_actor = refl;
      on_worker = refl;
      losses = c.incarnation.ensures;
      at_place = c.len.ensures ∙ ap (λ (p : PartsState _). length p.events) c.self.view_is;
      job = (
        c.in-Some-Job.field-0-2,
        c.in-Some-Job.inputs,
        c.in-Some-Job.field-0-4,
        at,
        sound.0,
        sound.1,
        subst (λ (fs : List FileId). AreFed tells content (state_of now) fs c.in_ok-feeds-in-Some-Job.field-0.items) c.as_slice.ensures
            c.in_ok-feeds-in-Some-Job.ensures,
      );
      inputs = (
        c.in_ok-ascending-in-Some-Job.ensures.ascends,
        λ f. c.in_ok-ascending-in-Some-Job.ensures.same f ∙ ap (among f) c.as_slice-in-Some-Job.ensures ∙ sym (ap (claim_reads past f) at),
      );
    }
