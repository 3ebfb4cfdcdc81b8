use Rattle.std.proofs.Common.{◌≡◌}
use Rattle.tl_model.specs.Past.{act_with}
use Rattle.tl_steps.proofs.Lists.{changed_first}
use Rattle.tl_plan.specs.Data.{job_after}
use Rattle.tl_plan.proofs.job.note_jobs.Given as goal

abbrev pub invariant-loop-job : goal.invariant-loop-job
invariant-loop-job g l = l.jobs ≡ changed_first l.job-index (job_after (act_with (λ _. tt) l.act)) l.initial.jobs
