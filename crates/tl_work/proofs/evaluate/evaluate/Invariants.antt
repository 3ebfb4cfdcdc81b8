use Rattle.std.proofs.Common.{◌≡◌, ◌-◌, false}
use Rattle.tl_lang.specs.Job.{job_mean}
use Rattle.tl_work.proofs.evaluate.evaluate.Given as goal

abbrev pub invariant-slices : goal.invariant-slices
invariant-slices l = record {
  outcomes : l.machine.outcomes ≡ job_mean l.core l.fn.inputs.items;
  going : l.machine.is_answered ≡ false;
}

abbrev pub decreases-slices : goal.decreases-slices
decreases-slices l = l.machine.total - l.machine.entered
