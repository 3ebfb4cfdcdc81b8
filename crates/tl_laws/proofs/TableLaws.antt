use Rattle.std.proofs.Common.{◌≡◌, List, [], ◌∷◌, refl, ap, ◌∙◌}
use Rattle.tl_model.specs.Tables.{Table, downward}
use Rattle.tl_laws.specs.Solves.{Solves}

-- what is found downward agrees with itself
pub downward-Solves : {R A : Type 0} (answer : Table R A → R → A) (rs : List R) → Solves answer rs (downward answer rs)
downward-Solves answer [] = tt
downward-Solves answer (r ∷ rs) = (refl, refl, downward-Solves answer rs)

-- and nothing else does
pub Solves-only : {R A : Type 0} (answer : Table R A → R → A) (rs : List R) (table : Table R A) → Solves answer rs table → table ≡ downward answer rs
Solves-only answer [] [] s = refl
Solves-only answer [] (entry ∷ table) s = absurd s
Solves-only answer (r ∷ rs) [] s = absurd s
Solves-only answer (r ∷ rs) (entry ∷ table) s =
    let rest : table ≡ downward answer rs = Solves-only answer rs table s.2 in
    let value : entry.1 ≡ answer (downward answer rs) r = s.1 ∙ ap (λ t. answer t r) rest in
    λ i. (s.0 i, value i) ∷ rest i
