-- Pieces of a text that are too long for a list before the last of them.
use Rattle.std.specs.Prelude.{◌≡◌, ℕ, false, List, ◌∷◌, ◌++◌}
use Rattle.tl_lang.specs.Value.{is_list}

-- some of the pieces, with one more after them, are over the limits of a list
pub record IsOverLimits (pieces : List (List ℕ)) : Type 0 where
  pub front : List (List ℕ)
  pub next : List ℕ
  pub others : List (List ℕ)
  pub are : pieces ≡ front ++ next ∷ others
  pub over : is_list front ≡ false
