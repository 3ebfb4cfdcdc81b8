use Rattle.std.proofs.Common.{◌≡◌, drop}
use Rattle.tl_plan.specs.Data.{all_awaited}
use Rattle.tl_plan.proofs.outputs.await_all.Given as goal

abbrev pub invariant-loop-input : goal.invariant-loop-input
invariant-loop-input l = all_awaited (drop l.input-index l.inputs) l.files ≡ all_awaited l.inputs l.initial.files
