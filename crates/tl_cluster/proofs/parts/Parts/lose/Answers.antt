use Rattle.std.proofs.Common.{◌<◌, ◌^◌, ℕ, List, ◌∷◌, length, slice_get, refl, sym, ap, ◌∙◌, subst}
use Rattle.tl_model.specs.declared.event.Act.TheVariants.{Lose}
use Rattle.tl_model.specs.declared.event.Event.{Event}
use Rattle.tl_cluster.specs.Main.{with_lost}
use Rattle.tl_cluster.specs.Stands.{Agrees}
use Rattle.tl_cluster.proofs.Losing.{lost-agrees, may-be-lost}
use Rattle.tl_cluster.proofs.parts.Parts.lose.Goals as goal

pub lose-requires-clause-incarnation : goal.lose-requires-clause-incarnation
lose-requires-clause-incarnation g c =
    let inside = c.self.inside in
    let longer : List (Event _) = record { actor = c.args.actor; act = Lose c.args.worker } ∷ inside.ledger.events in
    let counted = c.len-count.ensures ∙ ap length c.append.ensures.events in
    may-be-lost g.T.Ticket.tells g.T.Ticket.content (record {
      header = inside.ledger.header;
      events = inside.ledger.events;
      spare = inside.ledger.spare;
      workers = inside.fleet;
      vault = inside.vault;
    }) c.args.worker (slice_get inside.fleet c.args.worker.0)
    (subst (Agrees g.T.Ticket.tells g.T.Ticket.content) (sym c.self.view_is) c.requires.stands.agrees)
    (subst (λ (n : ℕ). n < 2 ^ 64) counted c.len-count.type_inv) refl

pub returns-clause-agrees : goal.returns-clause-agrees
returns-clause-agrees g c =
    subst (Agrees g.T.Ticket.tells g.T.Ticket.content) (sym ((λ i. record {
      header = c.append.ensures.header i;
      events = c.append.ensures.events i;
      spare = c.append.ensures.spare i;
      workers = c.lose.ensures.lost i;
      vault = c.self.inside.vault;
    }) ∙ ap (with_lost c.args.actor c.args.worker) c.self.view_is))
    (lost-agrees g.T.Ticket.tells g.T.Ticket.content c.args.self.now c.args.actor c.args.worker c.requires.stands c.requires.actor c.requires.worker c.requires.room)
