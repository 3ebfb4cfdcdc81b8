-- The last and the first place of a row of bits at which the bit is 1.
use Rattle.std.specs.Prelude.{◌≡◌, ℕ, ◌<◌, ◌≤◌, Option, Some, None}

-- the last place below n at which the bit is 1
abbrev pub IsLastBelow : (ℕ → ℕ) → ℕ → Option ℕ → Type 0
IsLastBelow bit n None = (k : ℕ) → k < n → bit k ≡ 0
IsLastBelow bit n (Some last) =
    (last < n) × (bit last ≡ 1) × ((k : ℕ) → last < k → k < n → bit k ≡ 0)

-- the first place from n on at which the bit is 1
abbrev pub IsFirstFrom : (ℕ → ℕ) → ℕ → Option ℕ → Type 0
IsFirstFrom bit n None = (k : ℕ) → n ≤ k → bit k ≡ 0
IsFirstFrom bit n (Some first) =
    (n ≤ first) × (bit first ≡ 1) × ((k : ℕ) → n ≤ k → k < first → bit k ≡ 0)
