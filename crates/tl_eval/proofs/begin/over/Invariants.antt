use Rattle.std.proofs.Common.{◌≡◌, map, take}
use Rattle.tl_types.specs.declared.outcome.Outcome.TheVariants.{Fault}
use Rattle.tl_eval.specs.Held.{code_of}
use Rattle.tl_eval.proofs.begin.over.Given as goal

abbrev pub invariant-loop-output : goal.invariant-loop-output
invariant-loop-output l = l.outcomes.items ≡ map (λ e. Fault (code_of l.fault)) (take l._output-index l.outputs)
