-- An evaluation under way, and what is still to come of it.
use Rattle.std.specs.Prelude.{◌≡◌, ◌≤◌, ◌<◌, ◌+◌, ◌-◌, ◌*◌, ◌^◌, ℕ, suc, List, [], ◌∷◌, ◌++◌, map, drop, length, sum_by}
use Rattle.std.specs.Global.{Global}
use Rattle.std.specs.declared.sync.Arc.{Arc}
use Rattle.tl_types.specs.declared.outcome.Outcome.{Outcome}
use Rattle.tl_eval.specs.declared.node.Node.{Node}
use Rattle.tl_eval.specs.declared.running.Running.{Running}
use Rattle.tl_eval.specs.declared.running.Progress.{Progress}
use Rattle.tl_eval.specs.declared.running.Progress.TheVariants.{Going, Over}
use Rattle.tl_eval.specs.Frames.{names_of, resume}
use Rattle.tl_eval.specs.Nodes.{gives}
use Rattle.tl_lang.specs.Value.{Value}
use Rattle.tl_lang.specs.Fuel.{Ending}
use Rattle.tl_lang.specs.Mean.{outcome_of, units_left}

-- how the output that is under way ends
abbrev pub this_ending : Running → Ending Value
this_ending r = resume r.stack (gives r.node.value (names_of r.stack) r.left)

-- how an output ends that begins with this fuel
abbrev pub root_ending : ℕ → Arc Node Global → Ending Value
root_ending fuel root = gives root.value [] fuel

abbrev pub root_outcome : ℕ → Arc Node Global → Outcome
root_outcome fuel root = outcome_of (root_ending fuel root)

abbrev pub root_entered : ℕ → Arc Node Global → ℕ
root_entered fuel root = fuel - units_left (root_ending fuel root)

-- the outcomes and the entries after so many outputs that are at their end, where the next one ends so
abbrev pub outcomes_with : ℕ → List (Arc Node Global) → List Outcome → Ending Value → List Outcome
outcomes_with fuel roots ended this = ended ++ outcome_of this ∷ map (root_outcome fuel) (drop (suc (length ended)) roots)

abbrev pub entries_with : ℕ → List (Arc Node Global) → List Outcome → ℕ → Ending Value → ℕ
entries_with fuel roots ended spent this = spent + (fuel - units_left this) + sum_by (root_entered fuel) (drop (suc (length ended)) roots)

-- the outcomes that the evaluation will have, and how many expressions it will have entered
abbrev pub will_answer : Running → List Outcome
will_answer r = outcomes_with r.fuel r.roots r.outcomes.items (this_ending r)

abbrev pub will_enter : Running → ℕ
will_enter r = entries_with r.fuel r.roots r.outcomes.items r.spent (this_ending r)

-- how many it has entered
abbrev pub has_entered : Running → ℕ
has_entered r = r.spent + (r.fuel - r.left)

-- an output is under way that has fuel; no job has more than 255 outputs
pub record IsUnderWay (r : Running) : Type 0 where
  pub has_fuel : 1 ≤ r.left
  pub left : r.left ≤ r.fuel
  pub outputs : length r.outcomes.items < length r.roots
  pub few : length r.roots ≤ 255
  pub spent : r.spent ≤ 2 ^ 32 * length r.outcomes.items

-- the evaluation is the same one, and has entered so many expressions
pub record GoesOnWith (count : ℕ) (old new : Running) : Type 0 where
  pub way : IsUnderWay new
  pub answer : will_answer new ≡ will_answer old
  pub total : will_enter new ≡ will_enter old
  pub entered : has_entered new ≡ count

-- one more expression was entered
abbrev pub Advances : Running → Progress → Type 0
Advances old (Going new) = GoesOnWith (suc (has_entered old)) old new
Advances old (Over end) = (end.outcomes.items ≡ will_answer old) × (end.entered ≡ will_enter old) × (end.entered ≡ suc (has_entered old))

-- an output has ended with this outcome and so much fuel left
abbrev pub EndsOutput : Running → Outcome → ℕ → Progress → Type 0
EndsOutput old outcome left (Going new) =
    IsUnderWay new
    × ((this : Ending Value) → outcome ≡ outcome_of this → units_left this ≡ left → will_answer new ≡ outcomes_with old.fuel old.roots old.outcomes.items this)
    × ((this : Ending Value) → units_left this ≡ left → will_enter new ≡ entries_with old.fuel old.roots old.outcomes.items old.spent this)
    × (has_entered new ≡ old.spent + (old.fuel - left))
EndsOutput old outcome left (Over end) =
    ((this : Ending Value) → outcome ≡ outcome_of this → end.outcomes.items ≡ outcomes_with old.fuel old.roots old.outcomes.items this)
    × ((this : Ending Value) → units_left this ≡ left → end.entered ≡ entries_with old.fuel old.roots old.outcomes.items old.spent this)
    × (end.entered ≡ old.spent + (old.fuel - left))
