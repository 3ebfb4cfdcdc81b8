-- An evaluation that has entered nothing.
use Rattle.std.specs.Prelude.{◌≡◌, ℕ, List, map}
use Rattle.tl_types.specs.declared.outcome.Outcome.{Outcome}
use Rattle.tl_types.specs.declared.outcome.Outcome.TheVariants.{Fault}
use Rattle.tl_eval.specs.declared.running.Progress.{Progress}
use Rattle.tl_eval.specs.declared.running.Progress.TheVariants.{Going, Over}
use Rattle.tl_eval.specs.Running.{IsUnderWay, will_answer, will_enter, has_entered}
use Rattle.tl_lang.specs.declared.expr.Expr.{Expr}
use Rattle.tl_lang.specs.declared.job.JobSpecCore.{JobSpecCore}
use Rattle.tl_lang.specs.Job.{job_mean, job_entered}

abbrev pub Begins : JobSpecCore → List Outcome → Progress → Type 0
Begins job inputs (Going r) = IsUnderWay r × (will_answer r ≡ job_mean job inputs) × (will_enter r ≡ job_entered job inputs) × (has_entered r ≡ 0)
Begins job inputs (Over end) = (end.outcomes.items ≡ job_mean job inputs) × (end.entered ≡ job_entered job inputs) × (end.entered ≡ 0)

-- at its end with nothing entered, and each output has this fault
abbrev pub IsOver : ℕ → List Expr → Progress → Type 0
IsOver code outputs (Going r) = ⊥
IsOver code outputs (Over end) = (end.outcomes.items ≡ map (λ e. Fault code) outputs) × (end.entered ≡ 0)
