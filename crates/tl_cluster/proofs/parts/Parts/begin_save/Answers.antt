use Rattle.std.proofs.Common.{sym, ap, ◌∙◌, subst}
use Rattle.tl_cluster.specs.Main.{with_begun}
use Rattle.tl_cluster.specs.Stands.{Agrees}
use Rattle.tl_cluster.proofs.Checkpointing.{begun}
use Rattle.tl_cluster.proofs.parts.Parts.begin_save.Goals as goal

pub returns-clause-agrees : goal.returns-clause-agrees
returns-clause-agrees g c =
    subst (Agrees g.T.Ticket.tells g.T.Ticket.content) (sym ((λ i. record {
      header = c.append.ensures.header i;
      events = c.append.ensures.events i;
      spare = c.append.ensures.spare i;
      workers = c.self.inside.fleet;
      vault = c.self.inside.vault;
    }) ∙ ap (with_begun c.args.actor c.args.file) c.self.view_is))
    (begun g.T.Ticket.tells g.T.Ticket.content c.args.self.now c.args.actor c.args.file c.requires.stands c.requires.actor c.requires.idle
    c.requires.next c.requires.place c.requires.room)
