use Rattle.std.proofs.Common.{◌≡◌, replicate}
use Rattle.tl_fleet.specs.Workers.{new_worker}
use Rattle.tl_fleet.proofs.fleet.Fleet.new.Given as goal

abbrev pub invariant-loop : goal.invariant-loop
invariant-loop l = l.fleet.items ≡ replicate l.counter (new_worker l.capacity)
