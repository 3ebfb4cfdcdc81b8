use Rattle.std.proofs.Common.{◌≡◌, drop}
use Rattle.tl_edge.specs.Data.{first_leaf_in}
use Rattle.tl_edge.proofs.choice.first_leaf_in.Given as goal

abbrev pub invariant-loop-i : goal.invariant-loop-i
invariant-loop-i l = l.best ≡ first_leaf_in l.saves (drop l.i l.outputs) l.fn.later
