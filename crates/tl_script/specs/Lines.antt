use Rattle.std.specs.Prelude.{ℕ, ◌==◌, List, [], ◌∷◌, ◌≢◌, if◌then◌else◌}
use Rattle.std.specs.List.{onto_first}

-- another byte than this one
abbrev pub IsOther : ℕ → ℕ → Type 0
IsOther byte b = b ≢ byte

-- the lines of a text: a line feed ends each, but perhaps the last
abbrev pub lines_of : List ℕ → List (List ℕ)
lines_of [] = []
lines_of (b ∷ bs) = if b == 10 then [] ∷ lines_of bs else onto_first b (lines_of bs)
