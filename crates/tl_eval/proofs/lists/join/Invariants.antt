use Rattle.std.proofs.Common.{◌≡◌, ℕ, List, ◌∷◌, take}
use Rattle.tl_lang.specs.Lists.{joined}
use Rattle.tl_eval.proofs.lists.join.Given as goal

abbrev pub invariant-loop-text : goal.invariant-loop-text
invariant-loop-text l = (first : List ℕ) × (l.texts ≡ first ∷ l.rest) × (l.bytes.items ≡ joined l.between (first ∷ take l.text-index l.rest))
