use Rattle.std.proofs.Common.{◌≡◌, List, ◌++◌, Some, reverse, vec_len}
use Rattle.tl_types.specs.declared.outcome.Outcome.{Outcome}
use Rattle.tl_lang.specs.Mean.{values}
use Rattle.tl_eval.proofs.material.shared_inputs.Given as goal

abbrev pub invariant-loop-input : goal.invariant-loop-input
invariant-loop-input l = (later : List Outcome) × (l.fn.inputs.items ≡ l.inputs.items ++ later) × (values later ≡ Some (reverse l.texts.items))

abbrev pub decreases-loop-input : goal.decreases-loop-input
decreases-loop-input l = vec_len l.inputs
