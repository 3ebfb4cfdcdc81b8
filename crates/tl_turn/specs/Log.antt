-- Logs, newest entry first, and the entries of each seat in them.
use Rattle.std.specs.Prelude.{◌≡◌, ℕ, ◌==◌, Bool, List, [], ◌++◌, length, nat_lt, if◌then◌else◌, filter, All, ◌∷◌}

-- the longer of two logs
abbrev pub longer : {E : Type 0} → List E → List E → List E
longer old new = if nat_lt (length old) (length new) then new else old

-- the entries that stand beside this number, and none where it isn't there
abbrev pub kept_of : {E : Type 0} → ℕ → List (ℕ × List E) → List E
kept_of number [] = []
kept_of number (seat ∷ seats) = if seat.0 == number then seat.1 else kept_of number seats

module _ {E : Type 0} (maker : E → ℕ) where
  -- whether the seat of this number made the entry
  abbrev pub is_by : ℕ → E → Bool
  is_by number entry = maker entry == number

  -- the entries that the seat of this number made
  abbrev pub entries_by : ℕ → List E → List E
  entries_by number log = filter (is_by number) log

  -- the log is what was seen, with newer entries of this seat alone before it
  abbrev pub IsAddedBy : ℕ → List E → List E → Type 0
  IsAddedBy number seen log = (added : List E) × (log ≡ added ++ seen) × All (λ entry. maker entry ≡ number) added
