use Rattle.std.proofs.Common.{◌∷◌, List, sym, ap, ◌∙◌, subst}
use Rattle.tl_model.specs.declared.event.Act.TheVariants.{Done}
use Rattle.tl_model.specs.declared.event.Event.{Event}
use Rattle.tl_model.specs.Past.{without_tickets}
use Rattle.tl_core.specs.Claims.{incarnation}
use Rattle.tl_core.specs.Done.{IsUnlessLost, AreOutputs, AreValues, first_block, or_else}
use Rattle.tl_core.specs.Brought.{with_blocks}
use Rattle.tl_core.specs.Residents.{held}
use Rattle.tl_core.specs.State.{State}
use Rattle.tl_core.proofs.Carry.{carried}
use Rattle.tl_core.proofs.Working.{room_to_end}
use Rattle.tl_core.proofs.Doing.{done, held-done}
use Rattle.tl_core.proofs.cluster.Cluster.done.Goals as goal

pub append-requires-clause-room : goal.append-requires-clause-room
append-requires-clause-room g c =
    let events = c.self.inside.journal.events in
    let now = sym (ap (λ (es : List (Event _)). incarnation es c.args.work.worker) c.events.ensures) ∙ sym c.incarnation-now.ensures.value ∙ c.if-now-work.false in
    let claim = subst (λ (s : State _). IsUnlessLost s c.args.work) (sym c.self.view_is) c.requires.claim now in
    room_to_end (without_tickets events) c.args.work.actor (record { worker = c.args.work.worker; made = c.args.work.rec }) c.self.inside.journal.spare claim
    c.requires.actor c.self.invariant.room

pub invariant_of-self-2 : goal.invariant_of-self-2
invariant_of-self-2 g c =
    let events = c.self.inside.journal.events in
    let now = sym (ap (λ (es : List (Event _)). incarnation es c.args.work.worker) c.events.ensures) ∙ sym c.incarnation-now.ensures.value ∙ c.if-now-work.false in
    let claim = subst (λ (s : State _). IsUnlessLost s c.args.work) (sym c.self.view_is) c.requires.claim now in
    let outputs = subst (λ (s : State _). AreOutputs s c.args.work.rec c.args.blocks.items) (sym c.self.view_is) c.requires.outputs in
    let values = subst (λ (s : State _). AreValues g.T.Ticket.tells g.T.Ticket.content s c.args.blocks.items) (sym c.self.view_is) c.requires.values in
    carried g.T.Ticket.tells g.T.Ticket.content _ _ _ _ _ _ _ _ c.append.ensures.header c.append.ensures.events
    (c.install.ensures ∙ ap (with_blocks c.args.work.worker c.args.blocks.items) c.reserve.ensures.items) c.append.ensures.spare
    (done g.T.Ticket.tells g.T.Ticket.content c.self.inside.journal.header events c.self.inside.residents.items c.self.inside.journal.spare
    c.args.work.actor c.args.work.worker c.args.work.rec c.args.blocks.items c.self.invariant claim c.requires.actor outputs values)

pub returns : goal.returns
returns g c =
    let now = sym (ap (λ (es : List (Event _)). incarnation es c.args.work.worker) c.events.ensures) ∙ sym c.incarnation-now.ensures.value ∙ c.if-now-work.false in (
      ap (λ (s : State _). incarnation s.events c.args.work.worker) (sym c.self.view_is) ∙ now,
      c.append.ensures.header ∙ ap (λ (s : State _). s.header) c.self.view_is,
      c.append.ensures.events ∙ ap (λ (s : State _). record { actor = c.args.work.actor; act = Done c.args.work.worker c.args.work.rec } ∷ s.events) c.self.view_is,
      λ f. ap (held f) (c.install.ensures ∙ ap (with_blocks c.args.work.worker c.args.blocks.items) c.reserve.ensures.items)
          ∙ held-done f c.args.work.worker c.args.blocks.items c.self.inside.residents.items
          ∙ ap (λ (s : State _). or_else (held f s.residents) (first_block f c.args.blocks.items)) c.self.view_is,
    )
