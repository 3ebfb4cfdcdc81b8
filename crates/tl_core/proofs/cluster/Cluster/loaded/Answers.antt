use Rattle.std.proofs.Common.{◌≡◌, ◌<◌, ◌≤◌, ◌+◌, ◌∷◌, ◌++◌, [], true, false, List, Some, None, is_some, refl, sym, ap, ◌∙◌, subst, arith}
use Rattle.tl_types.specs.Block.{FileOutcome}
use Rattle.tl_types.specs.Outcome.{digest_of}
use Rattle.tl_types.specs.declared.file_id.FileId.{FileId}
use Rattle.tl_model.specs.declared.event.Act.TheVariants.{Load, Served}
use Rattle.tl_model.specs.declared.event.Event.{Event}
use Rattle.tl_model.specs.Past.{events_with, without_tickets}
use Rattle.tl_model.specs.Values.{value}
use Rattle.tl_model.specs.Residency.{is_resident}
use Rattle.tl_model.specs.Actors.{open_read}
use Rattle.tl_core.specs.Residents.{Residents, found, held}
use Rattle.tl_core.specs.Answers.{past_of, IsSavedBlock}
use Rattle.tl_core.specs.State.{State}
use Rattle.tl_core.proofs.Carry.{carried, value_of}
use Rattle.tl_core.proofs.Reading.{served, room_to_end}
use Rattle.tl_core.proofs.Loading.{brought}
use Rattle.tl_core.proofs.Looking.{looked_have}
use Rattle.tl_core.proofs.cluster.Cluster.loaded.Goals as goal

pub append-requires-clause-room : goal.append-requires-clause-room
append-requires-clause-room g c =
    let events = c.self.inside.journal.events in
    let some = value_of (open_read (without_tickets events) c.args.actor)
    (ap (λ (s : State _). is_some (open_read (past_of s) c.args.actor)) c.self.view_is ∙ c.requires.reading) in
    room_to_end (without_tickets events) c.args.actor some.0 c.self.inside.journal.spare some.1 c.requires.actor c.self.invariant.room

pub invariant_of-self : goal.invariant_of-self
invariant_of-self g c =
    let events = c.self.inside.journal.events in
    let residents = c.self.inside.residents.items in
    let some = value_of (open_read (without_tickets events) c.args.actor)
    (ap (λ (s : State _). is_some (open_read (past_of s) c.args.actor)) c.self.view_is ∙ c.requires.reading) in
    let own : c.file-file.result ≡ c.args.block.file = c.file-file.ensures ∙ ap (λ (b : FileOutcome). b.file) c.get.ensures in
    let file : c.file-file.result ≡ some.0.file =
    own ∙ c.requires.file some.0 (ap (λ (s : State _). open_read (past_of s) c.args.actor) (sym c.self.view_is) ∙ some.1) in
    let here : found some.0.file residents ≡ Some c.in-Some.resident.now =
    ap (λ (f : FileId). found f residents) (sym file) ∙ ap (found c.file-file.result) (sym c.deref.ensures.value) ∙ sym c.in-Some.ensures in
    let digests : c.digest.result.0 ≡ digest_of c.in-Some.resident.now.block.outcome =
    c.digest.ensures ∙ ap (λ (b : FileOutcome). digest_of b.outcome) (c.get-in-Some.ensures ∙ c.in_ok-held-in-Some.ensures) in
    carried g.T.Ticket.tells g.T.Ticket.content _ _ _ _ _ _ _ _ c.append.ensures.header
    (c.append.ensures.events ∙ ap (λ f. record { actor = c.args.actor; act = Served f c.digest.result } ∷ events) file)
    refl c.append.ensures.spare
    (served g.T.Ticket.tells g.T.Ticket.content c.self.inside.journal.header events residents c.self.inside.journal.spare
    c.args.actor c.digest.result some.0 c.in-Some.resident.now c.self.invariant some.1 here digests c.requires.actor)

pub invariant_of-self-in-None : goal.invariant_of-self-in-None
invariant_of-self-in-None g c =
    let events = c.self.inside.journal.events in
    let residents = c.self.inside.residents.items in
    let some = value_of (open_read (without_tickets events) c.args.actor)
    (ap (λ (s : State _). is_some (open_read (past_of s) c.args.actor)) c.self.view_is ∙ c.requires.reading) in
    let own : c.file-file.result ≡ c.args.block.file = c.file-file.ensures ∙ ap (λ (b : FileOutcome). b.file) c.get.ensures in
    let file_is : c.args.block.file ≡ some.0.file =
    c.requires.file some.0 (ap (λ (s : State _). open_read (past_of s) c.args.actor) (sym c.self.view_is) ∙ some.1) in
    let known = subst (λ (s : State _). c.args.worker.0 < s.header.workers) (sym c.self.view_is) c.requires.worker in
    let gone : found c.args.block.file residents ≡ None =
    ap (λ (f : FileId). found f residents) (sym own) ∙ ap (found c.file-file.result) (sym c.deref.ensures.value) ∙ sym c.in-None.ensures in
    let saved = subst (λ (s : State _). IsSavedBlock s c.args.block) (sym c.self.view_is) c.requires.saved in
    let val = subst (λ (s : State _). g.T.Ticket.tells ≡ true → c.args.block.outcome ≡ value (events_with g.T.Ticket.content s.events) c.args.block.file) (sym c.self.view_is) c.requires.value in
    let digests : c.digest-digest.result.0 ≡ digest_of c.args.block.outcome = c.digest-digest.ensures ∙ ap (λ (b : FileOutcome). digest_of b.outcome) c.get-in-None.ensures in
    let room : 51 ≤ c.reserve-in-None.new.self.spare = c.in_ok-reserve-in-None-2.ensures.room in
    let left : c.reserve-in-None.new.self.spare ≤ c.record_load.new.journal.spare + 2 = c.record_load.ensures.spare in
    let enough : 48 ≤ c.record_load.new.journal.spare = omega arith in
    carried g.T.Ticket.tells g.T.Ticket.content _ _ _ _ _ _ _ _ (c.record_load.ensures.header ∙ c.in_ok-reserve-in-None-2.ensures.header)
    (c.record_load.ensures.events
    ∙ ap (λ (es : List (Event _)). record { actor = c.args.actor; act = Served c.file-file.result c.digest-digest.result } ∷ record { actor = c.args.actor; act = Load c.args.worker c.file-file.result } ∷ es) c.in_ok-reserve-in-None-2.ensures.events
    ∙ ap (λ (f : FileId). record { actor = c.args.actor; act = Served f c.digest-digest.result } ∷ record { actor = c.args.actor; act = Load c.args.worker f } ∷ events) own)
    (c.push_within.ensures.items ∙ ap (λ (rs : Residents). rs ++ record { worker = c.args.worker; block = c.args.block } ∷ []) c.in_ok-reserve-in-None.ensures.items)
    refl
    (brought g.T.Ticket.tells g.T.Ticket.content c.self.inside.journal.header events residents c.self.inside.journal.spare c.record_load.new.journal.spare
    c.args.actor c.args.worker c.args.block c.digest-digest.result some.0 c.self.invariant some.1 file_is c.requires.actor known gone saved val digests enough)

pub returns-in_ok-held-in-Some-clause-ok : goal.returns-in_ok-held-in-Some-clause-ok
returns-in_ok-held-in-Some-clause-ok g c =
    let events = c.self.inside.journal.events in
    let residents = c.self.inside.residents.items in
    let header = c.self.inside.journal.header in
    let some = value_of (open_read (without_tickets events) c.args.actor)
    (ap (λ (s : State _). is_some (open_read (past_of s) c.args.actor)) c.self.view_is ∙ c.requires.reading) in
    let own : c.file-file.result ≡ c.args.block.file = c.file-file.ensures ∙ ap (λ (b : FileOutcome). b.file) c.get.ensures in
    let file_is : c.args.block.file ≡ some.0.file =
    c.requires.file some.0 (ap (λ (s : State _). open_read (past_of s) c.args.actor) (sym c.self.view_is) ∙ some.1) in
    let here : found c.file-file.result residents ≡ Some c.in-Some.resident.now =
    ap (found c.file-file.result) (sym c.deref.ensures.value) ∙ sym c.in-Some.ensures in
    let look = looked_have g.T.Ticket.tells g.T.Ticket.content header events residents c.self.inside.journal.spare c.args.self.now _ c.args.actor
    c.file-file.result c.in-Some.resident.now c.in_ok-held-in-Some.held c.digest.result some.0 c.self.view_is
    (λ i. record { header = c.append.ensures.header i; events = c.append.ensures.events i; residents = residents })
    c.self.invariant (own ∙ file_is) here c.in_ok-held-in-Some.ensures
    (c.digest.ensures ∙ ap (λ (b : FileOutcome). digest_of b.outcome) c.get-in-Some.ensures) in (
      λ resident. (ap (λ (f : FileId). held f c.args.self.now.residents) file_is ∙ look.1, look.3),
      λ away. absurd (let h : true ≡ false = sym look.0 ∙ ap (λ (f : FileId). is_resident (past_of c.args.self.now) f) (sym file_is) ∙ away in cc),
    )
