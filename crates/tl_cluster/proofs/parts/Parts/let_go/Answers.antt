use Rattle.std.proofs.Common.{sym, ap, ◌∙◌, subst}
use Rattle.tl_cluster.specs.Main.{with_let_go}
use Rattle.tl_cluster.specs.Stands.{Agrees}
use Rattle.tl_cluster.proofs.LettingGo.{let-go}
use Rattle.tl_cluster.proofs.parts.Parts.let_go.Goals as goal

pub returns-clause-agrees : goal.returns-clause-agrees
returns-clause-agrees g c =
    subst (Agrees g.T.Ticket.tells g.T.Ticket.content) (sym ((λ i. record {
      header = c.append.ensures.header i;
      events = c.append.ensures.events i;
      spare = c.append.ensures.spare i;
      workers = c.self.inside.fleet;
      vault = c.self.inside.vault;
    }) ∙ ap (with_let_go c.args.actor c.args.made) c.self.view_is))
    (let-go g.T.Ticket.tells g.T.Ticket.content c.args.self.now c.args.actor c.args.made c.requires.stands c.requires.actor c.requires.least c.requires.room)
