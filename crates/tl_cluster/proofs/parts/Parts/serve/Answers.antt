use Rattle.std.proofs.Common.{◌<◌, ap, ◌∙◌, subst, sym}
use Rattle.tl_model.specs.Past.{without_tickets}
use Rattle.tl_fleet.specs.Workers.{held_count}
use Rattle.tl_cluster.specs.Main.{with_served}
use Rattle.tl_cluster.specs.Stands.{Agrees, PartsState}
use Rattle.tl_cluster.proofs.Reading.{room_to_end, serves}
use Rattle.tl_cluster.proofs.parts.Parts.serve.Goals as goal

pub append-requires-clause-room : goal.append-requires-clause-room
append-requires-clause-room g c =
    let now : PartsState _ = c.args.self.now in
    let reading = c.requires.reading in
    subst (λ (p : PartsState _). 0 < p.spare) (sym c.self.view_is)
    (room_to_end (without_tickets now.events) c.args.actor reading.0 (held_count now.workers) now.spare reading.1 c.requires.actor
    c.requires.stands.agrees.room)

pub returns-clause-agrees : goal.returns-clause-agrees
returns-clause-agrees g c =
    let now : PartsState _ = c.args.self.now in
    let P : PartsState _ → Type 0 = Agrees g.T.Ticket.tells g.T.Ticket.content in
    subst P (sym ((λ i. record {
      header = c.append.ensures.header i;
      events = c.append.ensures.events i;
      spare = c.append.ensures.spare i;
      workers = c.touch.ensures.touched i;
      vault = c.self.inside.vault;
    }) ∙ ap (with_served c.args.actor c.args.file c.args.digest) c.self.view_is))
    (serves g.T.Ticket.tells g.T.Ticket.content now c.args.actor c.args.file c.args.digest c.requires.stands c.requires.reading
    c.requires.held c.requires.actor)
