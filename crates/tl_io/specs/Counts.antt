-- Counts that stand still at the last value of 64 bits.
use Rattle.std.specs.Prelude.{ℕ, ◌+◌, ◌-◌, ◌^◌, ◌≤◌, min, max}

-- n more
abbrev pub more : ℕ → ℕ → ℕ
more count n = max count (min (count + n) (2 ^ 64 - 1))

-- the count rose, or stands at the last value
abbrev pub Rises : ℕ → ℕ → Type 0
Rises before now = min (before + 1) (2 ^ 64 - 1) ≤ now
