use Rattle.std.proofs.Common.{◌≡◌, true, Some, sym, ◌∙◌, subst}
use Rattle.tl_types.specs.declared.file_id.FileId.{FileId}
use Rattle.tl_types.specs.declared.worker_id.WorkerId.{WorkerId}
use Rattle.tl_model.specs.Past.{without_tickets}
use Rattle.tl_model.specs.Rules.{last_actor_is}
use Rattle.tl_fleet.specs.Workers.{dropped, held_count}
use Rattle.tl_fleet.proofs.Held.{settled_held}
use Rattle.tl_cluster.specs.Stands.{Agrees, PartsState, Stands}
use Rattle.tl_cluster.specs.Turned.{IsDrop, is_protected}
use Rattle.tl_cluster.proofs.Settling.{agrees-once, is-drop, no-drop, room_to_drop}
use Rattle.tl_cluster.proofs.parts.Parts.drop_one.Goals as goal

pub append-requires-clause-room : goal.append-requires-clause-room
append-requires-clause-room g c =
    let inside = c.self.inside in
    let P : PartsState _ → Type 0 = Agrees g.T.Ticket.tells g.T.Ticket.content in
    let agrees = subst P (sym c.self.view_is) c.requires.agrees in
    let drop : WorkerId × FileId = (c.in-Some.worker, c.in-Some.file) in
    room_to_drop g.T.Ticket.tells g.T.Ticket.content _ (held_count (dropped (Some drop) inside.fleet)) agrees
    (settled_held (is_protected inside.ledger.events) drop inside.fleet c.in-Some.ensures.first
    (agrees-once g.T.Ticket.tells g.T.Ticket.content _ agrees))

pub returns-in-Some-clause-more : goal.returns-in-Some-clause-more
returns-in-Some-clause-more g c = λ _.
    let inside = c.self.inside in
    let P : PartsState _ → Type 0 = Agrees g.T.Ticket.tells g.T.Ticket.content in
    let agrees = subst P (sym c.self.view_is) c.requires.agrees in
    let last = subst (λ (p : PartsState _). last_actor_is (without_tickets p.events) c.args.actor ≡ true) (sym c.self.view_is) c.requires.last in
    let drop : WorkerId × FileId = (c.in-Some.worker, c.in-Some.file) in
    let new : PartsState _ = record {
      header = c.append.new.self.header;
      events = c.append.new.self.events;
      spare = c.append.new.self.spare;
      workers = c.drop_due.new.fleet;
      vault = inside.vault;
    } in
    subst (λ (p : PartsState _). IsDrop g.T.Ticket.tells g.T.Ticket.content c.args.actor p new) c.self.view_is
    (is-drop g.T.Ticket.tells g.T.Ticket.content _ new c.args.actor drop (is_protected inside.ledger.events) agrees c.requires.actor last
    c.in-Some.ensures.first c.in-Some.ensures.due (λ i. record {
      header = c.append.ensures.header i;
      events = c.append.ensures.events i;
      spare = c.append.ensures.spare i;
      workers = c.in-Some.ensures.dropped i;
      vault = inside.vault;
    }))

pub returns-in-None-clause-none : goal.returns-in-None-clause-none
returns-in-None-clause-none g c = λ _.
    let inside = c.self.inside in
    let P : PartsState _ → Type 0 = Agrees g.T.Ticket.tells g.T.Ticket.content in
    let S : PartsState _ → Type 0 = Stands g.T.Ticket.tells g.T.Ticket.content in
    let agrees = subst P (sym c.self.view_is) c.requires.agrees in
    let stands = no-drop g.T.Ticket.tells g.T.Ticket.content _ agrees c.in-None.ensures.due in
    let same = (λ i. record {
      header = inside.ledger.header;
      events = inside.ledger.events;
      spare = inside.ledger.spare;
      workers = c.in-None.ensures.dropped i;
      vault = inside.vault;
    }) ∙ c.self.view_is in
    (same, subst S (sym same) (subst S c.self.view_is stands))
