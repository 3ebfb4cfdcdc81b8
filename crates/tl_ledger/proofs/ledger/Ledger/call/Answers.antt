use Rattle.std.proofs.Common.{◌≡◌, ◌<◌, ◌^◌, ◌∷◌, ℕ, true, List, length, Option, sym, ap, ◌∙◌, subst}
use Rattle.tl_types.specs.declared.file_id.FileId.{FileId}
use Rattle.tl_model.specs.declared.event.Act.TheVariants.{Call}
use Rattle.tl_model.specs.declared.event.Event.{Event}
use Rattle.tl_model.specs.declared.header.Header.{Header}
use Rattle.tl_model.specs.declared.record.Record.{Record}
use Rattle.tl_model.specs.History.{calls_of, names_of, records_of}
use Rattle.tl_model.specs.Past.{command_with, event_with, without_tickets}
use Rattle.tl_model.specs.Rules.{all_permitted, lawful_judge}
use Rattle.tl_steps.specs.Steps.{UnnamesOnly}
use Rattle.tl_lineage.specs.declared.slot.Slot.{Slot}
use Rattle.tl_names.specs.Answers.{Tables}
use Rattle.tl_laws.proofs.Tickets.{records-with}
use Rattle.tl_ledger.specs.Following.{Follows}
use Rattle.tl_ledger.specs.Naming.{deleted_file, gone_after, record_for}
use Rattle.tl_ledger.specs.Parts.{FollowPast, IsAtHand}
use Rattle.tl_ledger.proofs.Added.{at-hand}
use Rattle.tl_ledger.proofs.Follow.{call-count, followed-by, is-added, kept-by}
use Rattle.tl_ledger.proofs.Slots.{slots-length}
use Rattle.tl_ledger.proofs.Steps.{followed}
use Rattle.tl_ledger.proofs.Unnamed.{call-unnames}
use Rattle.tl_ledger.proofs.ledger.Ledger.call.Goals as goal

pub note_call-self-inside-requires-clause-slots : goal.note_call-self-inside-requires-clause-slots
note_call-self-inside-requires-clause-slots g c =
    let past = without_tickets c.self.inside.journal.events in
    ap (λ (slots : List Slot). length slots) (c.in_ok-make_room.ensures.slots ∙ c.self.invariant.1.slots) ∙ slots-length past
    ∙ ap (λ (rs : List Record). length rs) (records-with (λ _. tt) c.self.inside.journal.events) ∙ sym c.self.invariant.0.counted

pub note_call-self-inside-requires-clause-at_hand : goal.note_call-self-inside-requires-clause-at_hand
note_call-self-inside-requires-clause-at_hand g c =
    let calls = calls_of c.self.inside.journal.events in
    let names = names_of calls in
    let counted : c.self.inside.next.0 ≡ length (records_of calls) = c.self.invariant.0.counted in
    let history = c.in_ok-reply.ensures.history calls c.args.actor c.self.invariant.0.names counted in
    let ready : c.in_ok-rec.rec ≡ record_for (record { 0 = length (records_of calls) }) names c.args.command =
    c.in_ok-rec.ensures names c.self.invariant.0.names.names ∙ ap (λ (n : ℕ). record_for (record { 0 = n }) names c.args.command) counted in
    subst (λ (n : ℕ). IsAtHand c.make_room.new.parts n (Call (command_with (λ _. tt) c.args.command) c.in_ok-reply.reply) c.in_ok-rec.rec) (sym counted)
    (at-hand c.make_room.new.parts names (length (records_of calls)) c.args.command c.in_ok-reply.reply c.in_ok-rec.rec history.0 ready c.in_ok-make_room.ensures.room)

pub invariant_of-self : goal.invariant_of-self
invariant_of-self g c =
    let stood = c.self.invariant in
    let room = c.in_err-make_room.ensures in (
      stood.0,
      kept-by c.self.inside.parts c.make_room.new.parts c.self.inside.journal.header c.self.inside.journal.events stood.1 room.rule room.slots room.stand,
    )

pub invariant_of-self-in_err-reply : goal.invariant_of-self-in_err-reply
invariant_of-self-in_err-reply g c =
    let stood = c.self.invariant in
    let room = c.in_ok-make_room.ensures in (
      subst (λ (tables : Tables). Follows tables c.self.inside.next.0 (calls_of c.self.inside.journal.events)) (sym c.in_err-reply.ensures.err) stood.0,
      kept-by c.self.inside.parts c.make_room.new.parts c.self.inside.journal.header c.self.inside.journal.events stood.1 room.rule room.slots room.stand,
    )

pub invariant_of-self-in_err-answer : goal.invariant_of-self-in_err-answer
invariant_of-self-in_err-answer g c =
    let stood = c.self.invariant in
    let room = c.in_ok-make_room.ensures in (
      subst (λ (tables : Tables). Follows tables c.self.inside.next.0 (calls_of c.self.inside.journal.events))
          (sym (c.in_ok-reply.ensures.refused c.in_err-answer.ensures.err)) stood.0,
      kept-by c.self.inside.parts c.make_room.new.parts c.self.inside.journal.header c.self.inside.journal.events stood.1 room.rule room.slots room.stand,
    )

pub invariant_of-self-2 : goal.invariant_of-self-2
invariant_of-self-2 g c =
    let events = c.self.inside.journal.events in
    let header = c.self.inside.journal.header in
    let calls = calls_of events in
    let names = names_of calls in
    let reply = c.in_ok-reply.reply in
    let command = c.args.command in
    let event : Event _ = record { actor = c.args.actor; act = Call command reply } in
    let counted : c.self.inside.next.0 ≡ length (records_of calls) = c.self.invariant.0.counted in
    let history = c.in_ok-reply.ensures.history calls c.args.actor c.self.invariant.0.names counted in
    let ready : c.in_ok-rec.rec ≡ record_for (record { 0 = length (records_of calls) }) names command =
    c.in_ok-rec.ensures names c.self.invariant.0.names.names ∙ ap (λ (n : ℕ). record_for (record { 0 = n }) names command) counted in
    let old = c.self.invariant.1 in
    let made : FollowPast c.make_room.new.parts header events =
    kept-by c.self.inside.parts c.make_room.new.parts header events old c.in_ok-make_room.ensures.rule c.in_ok-make_room.ensures.slots
    c.in_ok-make_room.ensures.stand in
    let added = is-added events command reply c.in_ok-rec.rec history.0 ready in
    let gone : c.gone_after-gone.result ≡ gone_after reply (deleted_file names command) =
    c.gone_after-gone.ensures ∙ ap (gone_after reply) (c.deleted_file-deleted.ensures names c.self.invariant.0.names.names) in
    let unnames : all_permitted lawful_judge header (event ∷ events) ≡ true →
    UnnamesOnly (without_tickets events) (event_with (λ _. tt) event) c.gone_after-gone.result =
    λ ok. subst (λ (gone : Option FileId). UnnamesOnly (without_tickets events) (event_with (λ _. tt) event) gone) (sym gone)
    (call-unnames events c.args.actor command reply (length (records_of calls)) history.0
    (λ others. c.only_deletes_unname.ensures lawful_judge header event events ok others)
    (λ path is. c.a_delete_unnames_its_file.ensures lawful_judge header event events ok path is)) in (
      subst (λ (es : List (Event _)). Follows c.apply.new.self c.note_call-self-inside.result.0 (calls_of es)) (sym c.append.ensures.events)
          (followed c.self.inside.names c.apply.new.self c.self.inside.next.0 c.note_call-self-inside.result.0 calls c.args.actor command reply
          c.self.invariant.0 history (λ ns. c.note_call-self-inside.ensures.count ∙ call-count c.self.inside.next.0 command reply ns)),
      subst (λ (h : Header). FollowPast c.note_call-self-inside.new.parts h c.append.new.self.events) (sym c.append.ensures.header)
          (subst (λ (es : List (Event _)). FollowPast c.note_call-self-inside.new.parts header es) (sym c.append.ensures.events)
          (followed-by c.make_room.new.parts c.note_call-self-inside.new.parts header events event made c.note_call-self-inside.ensures.rule
          (c.note_call-self-inside.ensures.slots (without_tickets events) added)
          (λ stand ok. c.note_call-self-inside.ensures.stand header events stand added (record {
            permitted = ok;
            few = subst (λ (n : ℕ). n < 2 ^ 64) (c.len-count.ensures ∙ ap (λ (es : List (Event _)). length es) c.append.ensures.events) c.len-count.type_inv;
            unnames = unnames ok;
          })))),
    )
