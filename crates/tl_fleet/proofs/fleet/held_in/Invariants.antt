use Rattle.std.proofs.Common.{◌≡◌, ◌≤◌, ◌*◌, take}
use Rattle.tl_fleet.specs.Workers.{held_count}
use Rattle.tl_fleet.proofs.fleet.held_in.Given as goal

abbrev pub invariant-loop-worker : goal.invariant-loop-worker
invariant-loop-worker l = record {
  sum : l.held ≡ held_count (take l.worker-index l.workers);
  bound : l.held ≤ l.worker-index * 18446744073709551616;
}
