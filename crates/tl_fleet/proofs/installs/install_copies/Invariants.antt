use Rattle.std.proofs.Common.{◌≡◌, take}
use Rattle.tl_fleet.specs.Events.{installed_each}
use Rattle.tl_fleet.proofs.installs.install_copies.Given as goal

abbrev pub invariant-loop-i : goal.invariant-loop-i
invariant-loop-i l = l.workers ≡ installed_each l.w (take l.i l.blocks) l.initial.workers
