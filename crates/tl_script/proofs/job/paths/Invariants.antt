use Rattle.std.proofs.Common.{ℕ, ◌≤◌, length}
use Rattle.std.specs.List.{AllByRecursion}
use Rattle.tl_types.specs.Path.{IsPath}
use Rattle.tl_text.specs.PathText.{EndsToken}
use Rattle.tl_script.specs.Places.{Place, paths_then}
use Rattle.tl_script.specs.Commands.{with_paths}
use Rattle.tl_script.specs.Reading.{Precede, RefusedToo}
use Rattle.tl_script.proofs.job.paths.Given as goal

abbrev pub invariant-paths : goal.invariant-paths
invariant-paths l = record {
  ended : EndsToken l.rest;
  told : Precede l.text (with_paths l.paths.items) l.rest;
  all : AllByRecursion IsPath l.paths.items;
  few : length l.paths.items ≤ l.limit;
  later : (after : ℕ → Place) → RefusedToo (paths_then l.limit l.least 0 l.word after) l.text (paths_then l.limit l.least (length l.paths.items) l.word after) l.rest;
}

abbrev pub decreases-paths : goal.decreases-paths
decreases-paths l = length l.rest
