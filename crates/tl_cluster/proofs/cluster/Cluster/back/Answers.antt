use Rattle.std.proofs.Common.{refl, sym, ◌∙◌, subst}
use Rattle.tl_cluster.specs.State.{State}
use Rattle.tl_cluster.specs.Works.{IsUnlessLost}
use Rattle.tl_cluster.proofs.cluster.Cluster.back.Goals as goal

pub give_back-requires-clause-claim : goal.give_back-requires-clause-claim
give_back-requires-clause-claim g c =
    let work = c.args.work in
    let now = sym c.incarnation.ensures ∙ c.if-incarnation-work.true in
    let claim = subst (λ (s : State _). IsUnlessLost s work) (sym c.self.view_is) c.requires.claim now in
    (record { worker = work.worker; made = work.rec }, claim, refl)
