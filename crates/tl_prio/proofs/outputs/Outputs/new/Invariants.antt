use Rattle.std.proofs.Common.{◌≡◌, map}
use Rattle.tl_model.specs.History.{files_from}
use Rattle.tl_prio.specs.Data.{new_output}
use Rattle.tl_prio.proofs.outputs.Outputs.new.Given as goal

abbrev pub invariant-loop-out : goal.invariant-loop-out
invariant-loop-out l = l.items.items ≡ map new_output (files_from l.made 0 l.out)
