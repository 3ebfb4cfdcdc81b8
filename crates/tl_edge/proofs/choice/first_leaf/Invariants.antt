use Rattle.std.proofs.Common.{◌≡◌, drop}
use Rattle.tl_edge.specs.Data.{first_leaf}
use Rattle.tl_edge.proofs.choice.first_leaf.Given as goal

abbrev pub invariant-loop-i : goal.invariant-loop-i
invariant-loop-i l = l.best ≡ first_leaf l.saves (drop l.i l.files)
