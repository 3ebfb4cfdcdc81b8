-- Tables in which each answer follows from the later ones.
use Rattle.std.specs.Prelude.{◌≡◌, List, [], ◌∷◌}
use Rattle.tl_model.specs.Tables.{Table}

-- the table has these things in this order, and each answer is made from the answers of the later ones
abbrev pub Solves : {R A : Type 0} → (Table R A → R → A) → List R → Table R A → Type 0
Solves answer [] [] = Unit {0}
Solves answer [] (entry ∷ table) = ⊥
Solves answer (r ∷ rs) [] = ⊥
Solves answer (r ∷ rs) (entry ∷ table) = (entry.0 ≡ r) × (entry.1 ≡ answer table r) × Solves answer rs table
