-- What a job gives.
use Rattle.std.specs.Prelude.{◌≡◌, ℕ, List, length}
use Rattle.tl_types.specs.declared.outcome.Outcome.{Outcome}
use Rattle.tl_lang.specs.declared.job.JobSpecCore.{JobSpecCore}
use Rattle.tl_lang.specs.Mean.{mean, entered}

-- there are as many inputs as its program was checked for
abbrev pub TakesInputs : JobSpecCore → List Outcome → Type 0
TakesInputs job inputs = length inputs ≡ job.program.inputs

-- the outcomes of its outputs
abbrev pub job_mean : JobSpecCore → List Outcome → List Outcome
job_mean job inputs = mean job.program.program job.conf inputs job.fuel

-- how many expressions it enters in all
abbrev pub job_entered : JobSpecCore → List Outcome → ℕ
job_entered job inputs = entered job.program.program job.conf inputs job.fuel
