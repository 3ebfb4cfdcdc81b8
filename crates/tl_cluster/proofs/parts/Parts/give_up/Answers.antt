use Rattle.std.proofs.Common.{◌<◌, ap, ◌∙◌, subst, sym}
use Rattle.tl_types.specs.declared.file_id.FileId.{FileId}
use Rattle.tl_model.specs.Past.{without_tickets}
use Rattle.tl_fleet.specs.Workers.{held_count}
use Rattle.tl_cluster.specs.Main.{with_shut}
use Rattle.tl_cluster.specs.Stands.{Agrees, PartsState}
use Rattle.tl_cluster.proofs.Reading.{room_to_end, shut}
use Rattle.tl_cluster.proofs.parts.Parts.give_up.Goals as goal

pub append-requires-clause-room : goal.append-requires-clause-room
append-requires-clause-room g c =
    let now : PartsState _ = c.args.self.now in
    let reading = c.requires.reading in
    subst (λ (p : PartsState _). 0 < p.spare) (sym c.self.view_is)
    (room_to_end (without_tickets now.events) c.args.actor reading.0 (held_count now.workers) now.spare reading.1 c.requires.actor
    c.requires.stands.agrees.room)

pub returns-clause-agrees : goal.returns-clause-agrees
returns-clause-agrees g c =
    let now : PartsState _ = c.args.self.now in
    let reading = c.requires.reading in
    let P : PartsState _ → Type 0 = Agrees g.T.Ticket.tells g.T.Ticket.content in
    subst P (sym ((λ i. record {
      header = c.append.ensures.header i;
      events = c.append.ensures.events i;
      spare = c.append.ensures.spare i;
      workers = c.self.inside.fleet;
      vault = c.self.inside.vault;
    }) ∙ ap (with_shut c.args.actor c.args.file) c.self.view_is))
    (subst (λ (f : FileId). P (with_shut c.args.actor f now)) reading.2
    (shut g.T.Ticket.tells g.T.Ticket.content now c.args.actor reading.0 c.requires.stands reading.1 c.requires.actor))
