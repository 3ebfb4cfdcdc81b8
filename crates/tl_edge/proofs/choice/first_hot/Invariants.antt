use Rattle.std.proofs.Common.{◌≡◌, drop}
use Rattle.tl_edge.specs.Data.{first_hot}
use Rattle.tl_edge.proofs.choice.first_hot.Given as goal

abbrev pub invariant-loop-i : goal.invariant-loop-i
invariant-loop-i l = l.best ≡ first_hot l.saves l.hot (drop l.i l.files)
