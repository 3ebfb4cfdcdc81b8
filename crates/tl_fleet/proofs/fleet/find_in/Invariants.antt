use Rattle.std.proofs.Common.{◌≡◌, drop}
use Rattle.tl_fleet.specs.Workers.{found_from}
use Rattle.tl_fleet.proofs.fleet.find_in.Given as goal

abbrev pub invariant-loop-n : goal.invariant-loop-n
invariant-loop-n l = found_from l.n l.f (drop l.n l.workers) ≡ found_from 0 l.f l.workers
