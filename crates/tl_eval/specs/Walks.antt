-- The items of a list, one after another.
use Rattle.std.specs.Prelude.{◌≡◌, ℕ, List, [], ◌∷◌, drop, Option, Some, None}
use Rattle.std.specs.Global.{Global}
use Rattle.std.specs.declared.sync.Arc.{Arc}
use Rattle.tl_eval.specs.declared.node.Node.{Node}
use Rattle.tl_eval.specs.declared.walk.Walk.{Walk}

-- the items that are still to come
abbrev pub later : Walk → List (List ℕ)
later walk = drop walk.next walk.items

-- at the first item of the list, or nowhere where it has none
abbrev pub Begins : List ℕ → Arc Node Global → List (List ℕ) → Option Walk → Type 0
Begins name body items None = items ≡ []
Begins name body items (Some walk) = (walk.name ≡ name) × (walk.body ≡ body) × (items ≡ walk.item ∷ later walk)

-- at the next item, or nowhere where none is left
abbrev pub GoesOn : Walk → Option Walk → Type 0
GoesOn old None = later old ≡ []
GoesOn old (Some walk) = (walk.name ≡ old.name) × (walk.body ≡ old.body) × (later old ≡ walk.item ∷ later walk)
