use Rattle.std.proofs.Common.{◌≡◌, ◌≤◌, ◌+◌, ◌-◌, ◌∷◌, List, true, refl, sym, ap, ◌∙◌, subst, arith}
use Rattle.tl_model.specs.declared.event.Act.TheVariants.{Call}
use Rattle.tl_model.specs.declared.event.Event.{Event}
use Rattle.tl_model.specs.Actors.{is_idle}
use Rattle.tl_model.specs.Past.{without_tickets}
use Rattle.tl_model.specs.History.{calls_of, reply_after}
use Rattle.tl_model.specs.Journal.{Ledger}
use Rattle.tl_core.specs.Answers.{past_of}
use Rattle.tl_core.specs.Called.{file_to_free, freed, if_resident, made_of, put_made, with_freed, with_saved}
use Rattle.tl_core.specs.Residents.{file_held, without_file}
use Rattle.tl_core.specs.State.{State}
use Rattle.tl_core.proofs.Carry.{carried, roomier}
use Rattle.tl_core.proofs.Freeing.{any_call, freed-held}
use Rattle.tl_core.proofs.cluster.Cluster.call.Goals as goal

pub invariant_of-self-in_err-number : goal.invariant_of-self-in_err-number
invariant_of-self-in_err-number g c =
    let journal = c.self.inside.journal in
    let same = c.in_err-number.ensures.err in
    carried g.T.Ticket.tells g.T.Ticket.content _ _ _ _ _ _ _ _ (ap (λ (l : Ledger _). l.header) same ∙ c.in_ok-reserve.ensures.header)
    (ap (λ (l : Ledger _). l.events) same ∙ c.in_ok-reserve.ensures.events) refl (ap (λ (l : Ledger _). l.spare) same)
    (roomier g.T.Ticket.tells g.T.Ticket.content journal.header journal.events c.self.inside.residents.items journal.spare c.reserve.new.self.spare
    c.in_ok-reserve.ensures.never_less c.self.invariant)

pub invariant_of-self-2 : goal.invariant_of-self-2
invariant_of-self-2 g c =
    let journal = c.self.inside.journal in
    let events = journal.events in
    let residents = c.self.inside.residents.items in
    let reply = c.in_ok-number.reply in
    let command = c.args.command in
    let is : reply ≡ reply_after (calls_of events) command =
    c.in_ok-number.ensures.reply ∙ ap (λ (es : List (Event _)). reply_after (calls_of es) command) c.in_ok-reserve.ensures.events in
    let put : c.made_of.result ≡ put_made reply command = c.made_of.ensures ∙ ap (made_of reply) c.bytes_put-bytes.ensures in
    let file : c.file_to_free.result ≡ file_to_free events command =
    c.file_to_free.ensures ∙ ap (λ (es : List (Event _)). file_to_free es command) c.in_ok-reserve.ensures.events in
    let out : c.file_held-freed.result ≡ freed events command =
    c.file_held-freed.ensures ∙ ap (λ rs. file_held rs c.file_to_free.result) c.deref.ensures.value
    ∙ freed-held g.T.Ticket.tells g.T.Ticket.content journal.header events residents journal.spare c.file_to_free.result c.self.invariant
    ∙ ap (if_resident (without_tickets events)) file in
    let idle = subst (λ (s : State _). is_idle (past_of s) c.args.actor ≡ true) (sym c.self.view_is) c.requires.idle in
    let room : 51 ≤ c.reserve.new.self.spare = c.in_ok-reserve.ensures.room in
    let used : c.call.new.self.spare ≡ c.reserve.new.self.spare - 1 = c.in_ok-number.ensures.spare in
    let left : c.call.new.self.spare ≤ c.record_saved.new.journal.spare + 1 = c.record_saved.ensures.spare in
    let after : c.record_saved.new.journal.spare ≤ c.record_freed.new.journal.spare + 1 = c.record_freed.ensures.spare in
    let enough : 48 ≤ c.record_freed.new.journal.spare = omega arith in
    carried g.T.Ticket.tells g.T.Ticket.content _ _ _ _ _ _ _ _
    (c.record_freed.ensures.header ∙ c.record_saved.ensures.header ∙ c.in_ok-number.ensures.header ∙ c.in_ok-reserve.ensures.header)
    (c.record_freed.ensures.events ∙ ap (λ o. with_freed c.args.actor o c.record_saved.new.journal.events) out
    ∙ ap (with_freed c.args.actor (freed events command)) (c.record_saved.ensures.events ∙ ap (λ o. with_saved c.args.actor o c.call.new.self.events) put
    ∙ ap (with_saved c.args.actor (put_made reply command)) (c.in_ok-number.ensures.events
    ∙ ap (λ (es : List (Event _)). record { actor = c.args.actor; act = Call command reply } ∷ es) c.in_ok-reserve.ensures.events)))
    (c.take_out.ensures ∙ ap (λ o. without_file o residents) out) refl
    (any_call g.T.Ticket.tells g.T.Ticket.content journal.header events residents journal.spare
    c.record_freed.new.journal.spare c.args.actor command reply c.self.invariant is c.requires.client idle c.requires.fitting c.requires.bytes enough)
