use Rattle.std.proofs.Common.{ap, ◌∙◌, subst, sym}
use Rattle.tl_cluster.specs.Jobs.{with_claimed}
use Rattle.tl_cluster.specs.Stands.{Agrees, PartsState}
use Rattle.tl_cluster.proofs.Claiming.{claimed}
use Rattle.tl_cluster.proofs.parts.Parts.claim.Goals as goal

pub returns-clause-agrees : goal.returns-clause-agrees
returns-clause-agrees g c =
    let now : PartsState _ = c.args.self.now in
    let mid : PartsState _ = c.reserve.new.self in
    let roomier = c.in_ok-reserve.ensures.ok in
    let P : PartsState _ → Type 0 = Agrees g.T.Ticket.tells g.T.Ticket.content in
    subst P (sym ((λ i. record {
      header = c.append.ensures.header i;
      events = c.append.ensures.events i;
      spare = c.append.ensures.spare i;
      workers = c.touch_each.ensures.touched i;
      vault = c.self.inside.vault;
    }) ∙ ap (with_claimed c.args.actor c.args.worker c.args.made c.args.inputs.now) (c.self.view_is ∙ roomier.is)))
    (claimed g.T.Ticket.tells g.T.Ticket.content now c.args.actor c.args.worker c.args.made c.args.inputs.now mid.spare
    c.requires.stands c.requires.actor c.requires.worker c.requires.idle c.requires.next c.requires.inputs roomier.room)
