use Rattle.std.proofs.Common.{rules, ◌∙◌, ap, slice_set}
use Rattle.tl_model.specs.Past.{act_with}
use Rattle.tl_steps.proofs.Lists.{changed_first, changed_next, changed_all}
use Rattle.tl_plan.specs.Data.{job_after}
use Rattle.tl_plan.proofs.job.note_jobs.Goals as goal

pub loop-job-preserved : goal.loop-job-preserved
loop-job-preserved g c =
    ap (λ x. slice_set c.loop-job.jobs c.loop-job.job-index x) c.note_job.ensures
    ∙ changed_next c.args.jobs.now c.loop-job.jobs c.loop-job.job-index c.job-item.result (job_after (act_with (λ _. tt) c.args.act.now)) c.loop-job.invariant (search rules)

pub returns : goal.returns
returns g c =
    c.loop-job.invariant
    ∙ ap (λ k. changed_first k (job_after (act_with (λ _. tt) c.args.act.now)) c.args.jobs.now) (search rules)
    ∙ changed_all c.args.jobs.now (job_after (act_with (λ _. tt) c.args.act.now))
