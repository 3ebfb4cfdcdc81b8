-- Where the evaluation of an output rests.
use Rattle.std.specs.Prelude.{◌≡◌, ◌≤◌, ℕ, List}
use Rattle.tl_eval.specs.declared.frame.Frame.{Frame}
use Rattle.tl_eval.specs.declared.stop.Stop.{Stop}
use Rattle.tl_eval.specs.declared.stop.Stop.TheVariants.{Enter, End}
use Rattle.tl_eval.specs.Frames.{names_of, resume}
use Rattle.tl_eval.specs.Nodes.{gives}
use Rattle.tl_lang.specs.Value.{Value}
use Rattle.tl_lang.specs.Fuel.{Ending}
use Rattle.tl_lang.specs.Mean.{outcome_of, units_left}

-- with these units left, the evaluation that ends so rests before a node for which there is fuel, or is at its end
abbrev pub StopsAt : Stop → List Frame → ℕ → Ending Value → Type 0
StopsAt (Enter node) stack left ending = (1 ≤ left) × (resume stack (gives node.value (names_of stack) left) ≡ ending)
StopsAt (End outcome) stack left ending = (outcome ≡ outcome_of ending) × (units_left ending ≡ left)
