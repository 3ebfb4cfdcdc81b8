-- A set of numbers below a bound, as a list that says of each number whether it is a member.
use Rattle.std.specs.Prelude.{◌≡◌, ℕ, ◌<◌, ◌≤◌, Bool, true, List, Option, Some, None, slice_get}

-- n is a member
abbrev pub IsMember : List Bool → ℕ → Type 0
IsMember members n = slice_get members n ≡ Some true

-- no number is a member
abbrev pub HasNone : List Bool → Type 0
HasNone members = (k : ℕ) → ¬ (IsMember members k)

-- some number is a member
abbrev pub HasSome : List Bool → Type 0
HasSome members = (k : ℕ) × IsMember members k

-- the least member, or none where there is no member
abbrev pub IsLeast : List Bool → Option ℕ → Type 0
IsLeast members None = HasNone members
IsLeast members (Some n) = IsMember members n × ((k : ℕ) → IsMember members k → n ≤ k)

-- the greatest member, or none where there is no member
abbrev pub IsGreatest : List Bool → Option ℕ → Type 0
IsGreatest members None = HasNone members
IsGreatest members (Some n) = IsMember members n × ((k : ℕ) → IsMember members k → k ≤ n)

-- the greatest member below a bound, or none where no member is below it
abbrev pub IsGreatestBelow : List Bool → ℕ → Option ℕ → Type 0
IsGreatestBelow members bound None = (k : ℕ) → k < bound → ¬ (IsMember members k)
IsGreatestBelow members bound (Some n) =
    (n < bound) × IsMember members n × ((k : ℕ) → k < bound → IsMember members k → k ≤ n)

-- the least member from a number on, or none where no member is that number or greater
abbrev pub IsLeastFrom : List Bool → ℕ → Option ℕ → Type 0
IsLeastFrom members from None = (k : ℕ) → from ≤ k → ¬ (IsMember members k)
IsLeastFrom members from (Some n) =
    (from ≤ n) × IsMember members n × ((k : ℕ) → from ≤ k → IsMember members k → n ≤ k)
