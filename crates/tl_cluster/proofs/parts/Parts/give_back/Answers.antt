use Rattle.std.proofs.Common.{◌<◌, ap, ◌∙◌, subst, sym}
use Rattle.tl_types.specs.declared.record_id.RecordId.{RecordId}
use Rattle.tl_model.specs.Past.{without_tickets}
use Rattle.tl_fleet.specs.Workers.{held_count}
use Rattle.tl_cluster.specs.Jobs.{with_back}
use Rattle.tl_cluster.specs.Stands.{Agrees, PartsState}
use Rattle.tl_cluster.proofs.Claiming.{given-back, room_to_end}
use Rattle.tl_cluster.proofs.parts.Parts.give_back.Goals as goal

pub append-requires-clause-room : goal.append-requires-clause-room
append-requires-clause-room g c =
    let now : PartsState _ = c.args.self.now in
    let claim = c.requires.claim in
    subst (λ (p : PartsState _). 0 < p.spare) (sym c.self.view_is)
    (room_to_end (without_tickets now.events) c.args.actor claim.0 (held_count now.workers) now.spare claim.1 c.requires.actor
    c.requires.stands.agrees.room)

pub returns-clause-agrees : goal.returns-clause-agrees
returns-clause-agrees g c =
    let now : PartsState _ = c.args.self.now in
    let claim = c.requires.claim in
    let P : PartsState _ → Type 0 = Agrees g.T.Ticket.tells g.T.Ticket.content in
    subst P (sym ((λ i. record {
      header = c.append.ensures.header i;
      events = c.append.ensures.events i;
      spare = c.append.ensures.spare i;
      workers = c.self.inside.fleet;
      vault = c.self.inside.vault;
    }) ∙ ap (with_back c.args.actor c.args.made) c.self.view_is))
    (subst (λ (made : RecordId). P (with_back c.args.actor made now)) claim.2
    (given-back g.T.Ticket.tells g.T.Ticket.content now c.args.actor claim.0 c.requires.stands claim.1 c.requires.actor))
