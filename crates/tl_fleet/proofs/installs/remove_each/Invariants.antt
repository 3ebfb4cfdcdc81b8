use Rattle.std.proofs.Common.{◌≡◌, drop}
use Rattle.tl_fleet.specs.Installs.{removed_each}
use Rattle.tl_fleet.proofs.installs.remove_each.Given as goal

abbrev pub invariant-loop-i : goal.invariant-loop-i
invariant-loop-i l = l.workers ≡ removed_each l.w (drop l.i l.blocks) l.initial.workers
