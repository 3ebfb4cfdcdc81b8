use Rattle.std.proofs.Common.{◌≡◌, length}
use Rattle.tl_gc.specs.Data.{first_free}
use Rattle.tl_gc.proofs.needs.first_free.Given as goal

abbrev pub invariant-records : goal.invariant-records
invariant-records l = first_free l.left l.answers ≡ first_free l.fn.kept l.fn.needed

abbrev pub decreases-records : goal.decreases-records
decreases-records l = length l.left
