use Rattle.std.proofs.Common.{List, Option, subst}
use Rattle.tl_types.specs.declared.file_id.FileId.{FileId}
use Rattle.tl_cluster.specs.declared.feeds.Taken.{Taken}
use Rattle.tl_cluster.specs.Jobs.{IsClaimed}
use Rattle.tl_cluster.specs.Stands.{PartsState}
use Rattle.tl_cluster.specs.Taken.{TakesUp}
use Rattle.tl_cluster.proofs.JobTurns.{claimed-work}
use Rattle.tl_cluster.proofs.cluster.Cluster.claim.Goals as goal

pub returns-in_ok-claim-in-Some-clause-ok : goal.returns-in_ok-claim-in-Some-clause-ok
returns-in_ok-claim-in-Some-clause-ok g c =
    let tells = g.T.Ticket.tells in
    let content = g.T.Ticket.content in
    let parts : PartsState _ = c.self.inside.parts in
    let mid : PartsState _ = c.claim.new.self in
    let taken : Taken _ = c.in-Some.field-0 in
    let takes = subst (λ (o : Option (Taken _)). TakesUp tells content parts c.args.actor c.args.worker o) c.in-Some.is c.in_ok-work.ensures.taken in
    let used = subst (λ (fs : List FileId). IsClaimed c.args.actor c.args.worker taken.work.rec fs c.take_up.new.self mid) c.as_slice.ensures.value
    c.in_ok-claim-in-Some.ensures.claimed in
    let claimed = subst (λ (p : PartsState _). IsClaimed c.args.actor c.args.worker taken.work.rec taken.files.items p mid) c.take_up.ensures.same used in
    claimed-work tells content c.args.self.now parts mid c.settle.new.self c.args.actor c.args.worker taken c.self.view_is takes claimed c.settle.ensures.settled
