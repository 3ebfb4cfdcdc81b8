use Rattle.std.proofs.Common.{◌≡◌, ◌≤◌, reverse, take}
use Rattle.tl_cluster.specs.Losses.{incarnation}
use Rattle.tl_tests_cluster.proofs.runs.losses.Given as goal

abbrev pub invariant-loop-event : goal.invariant-loop-event
invariant-loop-event l = record { value : l.count ≡ incarnation (reverse (take l.event-index l.events)) l.worker; bound : l.count ≤ l.event-index }
