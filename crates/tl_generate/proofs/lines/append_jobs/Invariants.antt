use Rattle.std.proofs.Common.{◌≡◌, ◌++◌}
use Rattle.std.specs.Prelude.{string_bytes}
use Rattle.tl_generate.specs.Generated.{drawn_to, jobs_to}
use Rattle.tl_generate.proofs.lines.append_jobs.Given as goal

abbrev pub invariant-loop-before : goal.invariant-loop-before
invariant-loop-before l = record {
  draws : l.draws.state ≡ drawn_to l.before l.fn.seed;
  text : string_bytes l.text ≡ string_bytes l.initial.text ++ jobs_to l.before l.fn.seed;
}
