use Rattle.std.proofs.Common.{◌≡◌, drop}
use Rattle.tl_prio.specs.Data.{greatest_read}
use Rattle.tl_prio.proofs.waiting.greatest_read.Given as goal

abbrev pub invariant-loop-i : goal.invariant-loop-i
invariant-loop-i l = l.most ≡ greatest_read l.outputs (drop l.i l.seats)
