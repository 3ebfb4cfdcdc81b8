use Rattle.std.proofs.Common.{◌<◌, sym, ap, ◌∙◌, subst}
use Rattle.tl_model.specs.Past.{without_tickets}
use Rattle.tl_fleet.specs.Workers.{held_count}
use Rattle.tl_cluster.specs.Main.{with_unsaved}
use Rattle.tl_cluster.specs.Stands.{Agrees, PartsState}
use Rattle.tl_cluster.proofs.Checkpointing.{room_to_end, unsaved}
use Rattle.tl_cluster.proofs.parts.Parts.give_up_save.Goals as goal

pub append-requires-clause-room : goal.append-requires-clause-room
append-requires-clause-room g c =
    let now : PartsState _ = c.args.self.now in
    subst (λ (p : PartsState _). 0 < p.spare) (sym c.self.view_is)
    (room_to_end (without_tickets now.events) c.args.actor c.args.file (held_count now.workers) now.spare c.requires.saving c.requires.actor
    c.requires.stands.agrees.room)

pub returns-clause-agrees : goal.returns-clause-agrees
returns-clause-agrees g c =
    subst (Agrees g.T.Ticket.tells g.T.Ticket.content) (sym ((λ i. record {
      header = c.append.ensures.header i;
      events = c.append.ensures.events i;
      spare = c.append.ensures.spare i;
      workers = c.self.inside.fleet;
      vault = c.self.inside.vault;
    }) ∙ ap (with_unsaved c.args.actor c.args.file) c.self.view_is))
    (unsaved g.T.Ticket.tells g.T.Ticket.content c.args.self.now c.args.actor c.args.file c.requires.stands c.requires.saving c.requires.actor)
