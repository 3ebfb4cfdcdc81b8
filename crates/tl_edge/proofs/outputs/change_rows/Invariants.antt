use Rattle.std.proofs.Common.{◌≡◌, map}
use Rattle.tl_edge.specs.Data.{changed}
use Rattle.tl_steps.proofs.Lists.{changed_first}
use Rattle.tl_edge.proofs.outputs.change_rows.Given as goal

abbrev pub invariant-loop-outputs : goal.invariant-loop-outputs
invariant-loop-outputs l = l.files ≡ changed_first l.outputs-index (map (changed l.change)) l.initial.files
