use Rattle.std.proofs.Common.{◌+◌, refl}
use Rattle.std.specs.Prelude.{string_bytes}
use Rattle.tl_generate.proofs.Steps.{more_draws, more_jobs}
use Rattle.tl_generate.proofs.lines.append_jobs.Goals as goal

pub loop-before-preserved : goal.loop-before-preserved
loop-before-preserved c = record {
  draws = more_draws c.loop-before.before c.args.seed c.loop-before.draws.state _ c.loop-before.invariant.draws c.append_job.ensures.draws;
  text = more_jobs (string_bytes c.args.text.now) (string_bytes c.loop-before.text) _ c.loop-before.before (c.loop-before.before + 1) c.args.seed c.loop-before.draws.state refl
      c.loop-before.invariant.draws c.loop-before.invariant.text c.in_ok-append_job.ensures.text;
}
