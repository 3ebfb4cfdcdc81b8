use Rattle.std.proofs.Common.{◌∷◌, List, is_some, refl, ap, ◌∙◌}
use Rattle.tl_model.specs.declared.event.Act.TheVariants.{Shut}
use Rattle.tl_model.specs.declared.event.Event.{Event}
use Rattle.tl_model.specs.Past.{without_tickets}
use Rattle.tl_model.specs.Actors.{open_read}
use Rattle.tl_core.specs.Answers.{past_of}
use Rattle.tl_core.specs.State.{State}
use Rattle.tl_core.proofs.Carry.{carried, value_of}
use Rattle.tl_core.proofs.Reading.{shut, room_to_end}
use Rattle.tl_core.proofs.cluster.Cluster.shut.Goals as goal

pub append-requires-clause-room : goal.append-requires-clause-room
append-requires-clause-room g c =
    let events = c.self.inside.journal.events in
    let some = value_of (open_read (without_tickets events) c.args.actor)
    (ap (λ (s : State _). is_some (open_read (past_of s) c.args.actor)) c.self.view_is ∙ c.requires.reading) in
    room_to_end (without_tickets events) c.args.actor some.0 c.self.inside.journal.spare some.1 c.requires.actor c.self.invariant.room

pub invariant_of-self : goal.invariant_of-self
invariant_of-self g c =
    let events = c.self.inside.journal.events in
    let some = value_of (open_read (without_tickets events) c.args.actor)
    (ap (λ (s : State _). is_some (open_read (past_of s) c.args.actor)) c.self.view_is ∙ c.requires.reading) in
    let file = c.file_read-file.ensures some.0 (ap (λ (es : List (Event _)). open_read (without_tickets es) c.args.actor) c.events.ensures ∙ some.1) in
    carried g.T.Ticket.tells g.T.Ticket.content _ _ _ _ _ _ _ _ c.append.ensures.header
    (c.append.ensures.events ∙ ap (λ f. record { actor = c.args.actor; act = Shut f } ∷ events) file)
    refl c.append.ensures.spare
    (shut g.T.Ticket.tells g.T.Ticket.content c.self.inside.journal.header events c.self.inside.residents.items c.self.inside.journal.spare
    c.args.actor some.0 c.self.invariant some.1 c.requires.actor)
