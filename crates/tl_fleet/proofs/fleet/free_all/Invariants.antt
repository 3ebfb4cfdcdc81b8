use Rattle.std.proofs.Common.{◌≡◌}
use Rattle.tl_store.specs.Contents.{without}
use Rattle.tl_fleet.specs.Workers.{with_blocks}
use Rattle.tl_fleet.proofs.Changes.{changed_first}
use Rattle.tl_fleet.proofs.fleet.free_all.Given as goal

abbrev pub invariant-loop-worker : goal.invariant-loop-worker
invariant-loop-worker l = l.workers ≡ changed_first l.worker-index (with_blocks (without l.f)) l.initial.workers
