use Rattle.std.proofs.Common.{List, refl, sym, ap, ◌∙◌, subst}
use Rattle.tl_model.specs.declared.event.Event.{Event}
use Rattle.tl_model.specs.Past.{without_tickets}
use Rattle.tl_core.specs.Claims.{incarnation}
use Rattle.tl_core.specs.Done.{IsUnlessLost}
use Rattle.tl_core.specs.State.{State}
use Rattle.tl_core.proofs.Carry.{carried}
use Rattle.tl_core.proofs.Working.{back, room_to_end}
use Rattle.tl_core.proofs.cluster.Cluster.back.Goals as goal

pub append-requires-clause-room : goal.append-requires-clause-room
append-requires-clause-room g c =
    let events = c.self.inside.journal.events in
    let now = sym (ap (λ (es : List (Event _)). incarnation es c.args.work.worker) c.events.ensures) ∙ sym c.incarnation.ensures.value ∙ c.if-incarnation-work.true in
    let claim = subst (λ (s : State _). IsUnlessLost s c.args.work) (sym c.self.view_is) c.requires.claim now in
    room_to_end (without_tickets events) c.args.work.actor (record { worker = c.args.work.worker; made = c.args.work.rec }) c.self.inside.journal.spare claim
    c.requires.actor c.self.invariant.room

pub invariant_of-self : goal.invariant_of-self
invariant_of-self g c =
    let events = c.self.inside.journal.events in
    let now = sym (ap (λ (es : List (Event _)). incarnation es c.args.work.worker) c.events.ensures) ∙ sym c.incarnation.ensures.value ∙ c.if-incarnation-work.true in
    let claim = subst (λ (s : State _). IsUnlessLost s c.args.work) (sym c.self.view_is) c.requires.claim now in
    carried g.T.Ticket.tells g.T.Ticket.content _ _ _ _ _ _ _ _ c.append.ensures.header c.append.ensures.events refl c.append.ensures.spare
    (back g.T.Ticket.tells g.T.Ticket.content c.self.inside.journal.header events c.self.inside.residents.items c.self.inside.journal.spare
    c.args.work.actor (record { worker = c.args.work.worker; made = c.args.work.rec }) c.self.invariant claim c.requires.actor)
