use Rattle.std.proofs.Common.{sym, subst}
use Rattle.tl_cluster.specs.Stands.{Stands}
use Rattle.tl_cluster.proofs.Beginning.{begins}
use Rattle.tl_cluster.proofs.cluster.Cluster.new.Goals as goal

pub invariant_of-result : goal.invariant_of-result
invariant_of-result g c =
    let spare = c.in_ok-new.field-0.spare in
    subst (Stands g.T.Ticket.tells g.T.Ticket.content) (sym (λ i. record {
      header = c.in_ok-new.ensures.header i;
      events = c.in_ok-new.ensures.events i;
      spare = spare;
      workers = c.in_ok-new-2.ensures.new i;
      vault = c.new-3.ensures i;
    })) (begins g.T.Ticket.tells g.T.Ticket.content c.args.header spare)
