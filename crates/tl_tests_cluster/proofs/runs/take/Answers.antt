use Rattle.std.proofs.Common.{◌≡◌, [], Option, sym, ap, ◌∙◌, subst}
use Rattle.tl_lang.specs.declared.job.JobSpecCore.{JobSpecCore}
use Rattle.tl_cluster.specs.declared.work.Work.{Work}
use Rattle.tl_cluster.specs.Works.{Claimed}
use Rattle.tl_tests_cluster.proofs.Keeping.{claimed-calls, claimed-makes}
use Rattle.tl_tests_cluster.proofs.runs.take.Goals as goal

pub returns-clause-makes : goal.returns-clause-makes
returns-clause-makes c =
    let one : c.in-Some.work.core.program.outputs ≡ 1 =
    sym (c.outputs.ensures.value ∙ ap (λ (core : JobSpecCore). core.program.outputs) c.get.ensures) ∙ c.if-outputs-ne1.false in
    claimed-makes _ (λ _. []) c.args.cluster.now c.claim.new.self c.args.actor c.args.worker c.in-Some.work
    (subst (λ (o : Option (Work _)). Claimed _ (λ _. []) c.args.cluster.now c.claim.new.self c.args.actor c.args.worker o) c.in-Some.is c.in_ok-work.ensures.ok)
    one

pub returns-clause-calls : goal.returns-clause-calls
returns-clause-calls c =
    claimed-calls _ (λ _. []) c.args.cluster.now c.claim.new.self c.args.actor c.args.worker c.in-Some.work
    (subst (λ (o : Option (Work _)). Claimed _ (λ _. []) c.args.cluster.now c.claim.new.self c.args.actor c.args.worker o) c.in-Some.is c.in_ok-work.ensures.ok)
