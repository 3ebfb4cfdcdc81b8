-- What is found for each of a list of things, where a thing's answer rests on those of later or earlier ones.
use Rattle.std.specs.Prelude.{Bool, List, [], ◌∷◌, reverse, Option, Some, None, if◌then◌else◌}

-- things with their answers
abbrev pub Table : Type 0 → Type 0 → Type 0
Table R A = List (R × A)

-- from the last to the first: each answer is made from the table of the later ones
abbrev pub downward : {R A : Type 0} → (Table R A → R → A) → List R → Table R A
downward answer [] = []
downward answer (r ∷ rs) = let later = downward answer rs in (r, answer later r) ∷ later

-- from the first to the last: each answer is made from the table of the earlier ones
abbrev pub upward : {R A : Type 0} → (Table R A → R → A) → List R → Table R A
upward answer rs = downward answer (reverse rs)

-- the answer of the first thing that passes the test
abbrev pub answer_at : {R A : Type 0} → (R → Bool) → A → Table R A → A
answer_at test otherwise [] = otherwise
answer_at test otherwise (entry ∷ table) = if test entry.0 then entry.1 else answer_at test otherwise table

-- the things whose answer is yes
abbrev pub chosen : {R : Type 0} → Table R Bool → List R
chosen [] = []
chosen (entry ∷ table) = if entry.1 then entry.0 ∷ chosen table else chosen table

abbrev pub better : {R : Type 0} → (R → R → Bool) → R → Option R → R
better before r None = r
better before r (Some s) = if before s r then s else r

-- the first of a list by an order: the earliest that no other is before
abbrev pub first_by : {R : Type 0} → (R → R → Bool) → List R → Option R
first_by before [] = None
first_by before (r ∷ rs) = Some (better before r (first_by before rs))

-- a list in an order: each is put before the first that isn't before it
abbrev pub put_by : {R : Type 0} → (R → R → Bool) → R → List R → List R
put_by before r [] = r ∷ []
put_by before r (s ∷ rs) = if before s r then s ∷ put_by before r rs else r ∷ s ∷ rs

abbrev pub sort_by : {R : Type 0} → (R → R → Bool) → List R → List R
sort_by before [] = []
sort_by before (r ∷ rs) = put_by before r (sort_by before rs)
