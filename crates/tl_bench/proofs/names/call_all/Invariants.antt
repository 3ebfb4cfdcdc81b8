use Rattle.std.proofs.Common.{◌≡◌, ◌≤◌, take, reverse}
use Rattle.tl_model.specs.Namespace.{Names}
use Rattle.tl_names.specs.Standing.{StandsFor}
use Rattle.tl_bench.specs.Calls.{done_of, names_by}
use Rattle.tl_bench.proofs.names.call_all.Given as goal

abbrev pub invariant-loop-place : goal.invariant-loop-place
invariant-loop-place l = record {
  bound : l.count ≤ l.place;
  done : (list : Names) → StandsFor l.fn.names.dirs list → l.count ≡ done_of (reverse (take l.place l.commands)) list;
  names : (list : Names) → StandsFor l.fn.names.dirs list → StandsFor l.names.dirs (names_by (reverse (take l.place l.commands)) list);
}
