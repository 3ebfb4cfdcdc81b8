use Rattle.std.proofs.Common.{◌≡◌, drop}
use Rattle.tl_fleet.specs.Workers.{first_to_drop_from}
use Rattle.tl_fleet.proofs.fleet.find_drop.Given as goal

abbrev pub invariant-loop-n : goal.invariant-loop-n
invariant-loop-n g l = let excepted = g.X.Excepted.excepted l.x in first_to_drop_from l.n excepted (drop l.n l.workers) ≡ first_to_drop_from 0 excepted l.workers
