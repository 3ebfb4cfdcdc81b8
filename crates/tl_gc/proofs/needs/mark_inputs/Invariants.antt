use Rattle.std.proofs.Common.{◌≡◌, length}
use Rattle.tl_gc.specs.Data.{all_marked}
use Rattle.tl_gc.proofs.needs.mark_inputs.Given as goal

abbrev pub invariant-inputs : goal.invariant-inputs
invariant-inputs l = (all_marked l.kept l.n l.left l.needed ≡ all_marked l.kept l.n l.fn.inputs l.initial.needed) × (length l.needed ≡ length l.kept)

abbrev pub decreases-inputs : goal.decreases-inputs
decreases-inputs l = length l.left
