-- Names that are visible at a place, and what each stands for.
use Rattle.std.specs.Prelude.{ℕ, bytes_eq, List, Option}
use Rattle.std.specs.Map.{lookup}

-- the innermost first
abbrev pub Names : Type 0 → Type 0
Names A = List (List ℕ × A)

-- what a name stands for: an inner one hides an outer one
abbrev pub visible : {A : Type 0} → List ℕ → Names A → Option A
visible name names = lookup (bytes_eq name) names
