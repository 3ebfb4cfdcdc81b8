use Rattle.std.proofs.Common.{◌<◌, sym, ap, ◌∙◌, subst}
use Rattle.tl_store.specs.Contents.{Blocks}
use Rattle.tl_cluster.specs.Jobs.{IsDone}
use Rattle.tl_cluster.specs.Losses.{incarnation}
use Rattle.tl_cluster.specs.Stands.{PartsState}
use Rattle.tl_cluster.specs.State.{State}
use Rattle.tl_cluster.specs.Works.{AreOutputs}
use Rattle.tl_cluster.proofs.JobTurns.{done-turned}
use Rattle.tl_cluster.proofs.cluster.Cluster.done.Goals as goal

pub returns : goal.returns
returns g c =
    let parts : PartsState _ = c.self.inside.parts in
    let mid : PartsState _ = c.finish.new.self in
    let work = c.args.work in
    let blocks : Blocks = c.args.blocks.items in
    let now = sym c.incarnation-now.ensures ∙ c.if-now-work.false in
    let within = subst (λ (s : State _). work.worker.0 < s.header.workers) (sym c.self.view_is) c.requires.worker in
    let outputs = subst (λ (s : State _). AreOutputs s work.rec blocks) (sym c.self.view_is) c.requires.outputs in
    let done = subst (λ (bs : Blocks). IsDone work.actor work.worker work.rec bs parts mid) c.deref.ensures.value c.in-Ok.ensures.done in (
      ap (λ (s : State _). incarnation s.events work.worker) (sym c.self.view_is) ∙ now,
      done-turned g.T.Ticket.tells g.T.Ticket.content c.args.self.now parts mid c.settle.new.self work.actor work.worker work.rec blocks c.self.view_is
          c.self.invariant within outputs done c.settle.ensures.settled,
    )
