use Rattle.std.proofs.Common.{◌≡◌, take}
use Rattle.tl_fleet.specs.Events.{touched_each}
use Rattle.tl_fleet.proofs.fleet.touch_files.Given as goal

abbrev pub invariant-loop-f : goal.invariant-loop-f
invariant-loop-f l = l.workers ≡ touched_each (take l.f-index l.files) l.initial.workers
