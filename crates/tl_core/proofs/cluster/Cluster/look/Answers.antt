use Rattle.std.proofs.Common.{◌≡◌, ◌∷◌, List, Some, None, is_some, refl, sym, ap, ◌∙◌, subst}
use Rattle.tl_types.specs.Block.{FileOutcome}
use Rattle.tl_types.specs.Outcome.{digest_of}
use Rattle.tl_types.specs.declared.file_id.FileId.{FileId}
use Rattle.tl_model.specs.declared.event.Act.TheVariants.{Served}
use Rattle.tl_model.specs.declared.event.Event.{Event}
use Rattle.tl_model.specs.Past.{without_tickets}
use Rattle.tl_model.specs.Actors.{open_read}
use Rattle.tl_core.specs.Residents.{found}
use Rattle.tl_core.specs.Answers.{past_of, FoundInStore}
use Rattle.tl_core.specs.Puts.{kept_put}
use Rattle.tl_core.specs.State.{State}
use Rattle.tl_core.proofs.Carry.{carried, value_of, if_ok}
use Rattle.tl_core.proofs.Reading.{served, room_to_end}
use Rattle.tl_core.proofs.Looking.{looked_have, looked_store}
use Rattle.tl_core.proofs.cluster.Cluster.look.Goals as goal

pub append-requires-clause-room : goal.append-requires-clause-room
append-requires-clause-room g c =
    let events = c.self.inside.journal.events in
    let some = value_of (open_read (without_tickets events) c.args.actor)
    (ap (λ (s : State _). is_some (open_read (past_of s) c.args.actor)) c.self.view_is ∙ c.requires.reading) in
    room_to_end (without_tickets events) c.args.actor some.0 c.self.inside.journal.spare some.1 c.requires.actor c.self.invariant.room

pub invariant_of-self : goal.invariant_of-self
invariant_of-self g c =
    let events = c.self.inside.journal.events in
    let residents = c.self.inside.residents.items in
    let some = value_of (open_read (without_tickets events) c.args.actor)
    (ap (λ (s : State _). is_some (open_read (past_of s) c.args.actor)) c.self.view_is ∙ c.requires.reading) in
    let file : c.file_read-file.result ≡ some.0.file =
    c.file_read-file.ensures some.0 (ap (λ (es : List (Event _)). open_read (without_tickets es) c.args.actor) c.events.ensures ∙ some.1) in
    let here : found some.0.file residents ≡ Some c.in-Some.resident.now =
    ap (λ (f : FileId). found f residents) (sym file) ∙ ap (found c.file_read-file.result) (sym c.deref.ensures.value) ∙ sym c.in-Some.ensures in
    let digests : c.digest.result.0 ≡ digest_of c.in-Some.resident.now.block.outcome =
    c.digest.ensures ∙ ap (λ (b : FileOutcome). digest_of b.outcome) (c.get.ensures ∙ c.in_ok-block-in-Some.ensures) in
    carried g.T.Ticket.tells g.T.Ticket.content _ _ _ _ _ _ _ _ c.append.ensures.header
    (c.append.ensures.events ∙ ap (λ f. record { actor = c.args.actor; act = Served f c.digest.result } ∷ events) file)
    refl c.append.ensures.spare
    (served g.T.Ticket.tells g.T.Ticket.content c.self.inside.journal.header events residents c.self.inside.journal.spare
    c.args.actor c.digest.result some.0 c.in-Some.resident.now c.self.invariant some.1 here digests c.requires.actor)

pub returns-in_ok-block-in-Some-clause-ok : goal.returns-in_ok-block-in-Some-clause-ok
returns-in_ok-block-in-Some-clause-ok g c = λ read is.
    let events = c.self.inside.journal.events in
    let residents = c.self.inside.residents.items in
    let header = c.self.inside.journal.header in
    let opened : open_read (without_tickets events) c.args.actor ≡ Some read = ap (λ (s : State _). open_read (past_of s) c.args.actor) c.self.view_is ∙ is in
    let file : c.file_read-file.result ≡ read.file =
    c.file_read-file.ensures read (ap (λ (es : List (Event _)). open_read (without_tickets es) c.args.actor) c.events.ensures ∙ opened) in
    let here : found c.file_read-file.result residents ≡ Some c.in-Some.resident.now =
    ap (found c.file_read-file.result) (sym c.deref.ensures.value) ∙ sym c.in-Some.ensures in
    looked_have g.T.Ticket.tells g.T.Ticket.content header events residents c.self.inside.journal.spare c.args.self.now _ c.args.actor
    c.file_read-file.result c.in-Some.resident.now c.in_ok-block-in-Some.block c.digest.result read c.self.view_is
    (λ i. record { header = c.append.ensures.header i; events = c.append.ensures.events i; residents = residents })
    c.self.invariant file here c.in_ok-block-in-Some.ensures (c.digest.ensures ∙ ap (λ (b : FileOutcome). digest_of b.outcome) c.get.ensures)

pub returns-in-None-clause-ok : goal.returns-in-None-clause-ok
returns-in-None-clause-ok g c = λ read is.
    let events = c.self.inside.journal.events in
    let residents = c.self.inside.residents.items in
    let opened : open_read (without_tickets events) c.args.actor ≡ Some read = ap (λ (s : State _). open_read (past_of s) c.args.actor) c.self.view_is ∙ is in
    let file : c.file_read-file.result ≡ read.file =
    c.file_read-file.ensures read (ap (λ (es : List (Event _)). open_read (without_tickets es) c.args.actor) c.events.ensures ∙ opened) in
    let gone : found c.file_read-file.result residents ≡ None =
    ap (found c.file_read-file.result) (sym c.deref.ensures.value) ∙ sym c.in-None.ensures in
    if_ok _ _ _ (λ look in_store.
    looked_store g.T.Ticket.tells g.T.Ticket.content c.self.inside.journal.header events residents c.self.inside.journal.spare
    c.args.self.now _ c.args.actor c.file_read-file.result look read c.self.view_is c.self.view_is c.self.invariant file gone
    (subst (λ (es : List (Event _)). FoundInStore g.T.Ticket.content (kept_put es c.file_read-file.result) look) c.events-in-None.ensures in_store))
    c.look_in_store.ensures
