use Rattle.std.proofs.Common.{◌≡◌, length}
use Rattle.tl_edge.specs.Data.{with_each}
use Rattle.tl_edge.proofs.outputs.change_each.Given as goal

abbrev pub invariant-inputs : goal.invariant-inputs
invariant-inputs l = with_each l.change l.left l.files ≡ with_each l.change l.fn.inputs l.initial.files

abbrev pub decreases-inputs : goal.decreases-inputs
decreases-inputs l = length l.left
