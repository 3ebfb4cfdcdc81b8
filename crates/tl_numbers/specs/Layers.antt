-- Rows of words of 64 bits, each upper row marking the words of the row below it that are not zero.
use Rattle.std.specs.Prelude.{◌≡◌, ℕ, ◌*◌, ◌/◌, ◌%◌, ◌<◌, ◌≤◌, min, max, Bool, ◌==◌, List, map, length, slice_index}
use Rattle.std.specs.Int.{bit_at}
use Rattle.std.specs.List.{range_with_len}

-- bit n of a row of words
unfoldable pub bit_in : List ℕ → ℕ → ℕ
bit_in words n = bit_at (slice_index words (n / 64)) (n % 64)

-- 1 where word j is not zero
unfoldable pub mark_of : List ℕ → ℕ → ℕ
mark_of words j = min 1 (slice_index words j)

-- a row has the words that it had, then words that are zero, and no more of them than make `len`
pub record IsGrown (len : ℕ) (old new : List ℕ) : Type 0 where
  pub same : (j : ℕ) → slice_index new j ≡ slice_index old j
  pub kept : length old ≤ length new
  pub short : length new ≤ max (length old) len

-- bit j of the upper row says whether word j of the lower row is not zero
abbrev pub Marks : List ℕ → List ℕ → Type 0
Marks upper lower = (j : ℕ) → bit_in upper j ≡ mark_of lower j

-- which numbers below a bound have their bit set
abbrev pub members_of : ℕ → List ℕ → List Bool
members_of bound words = map (λ n. bit_in words n == 1) (range_with_len 0 bound)

-- four rows for the numbers below a bound: each is long enough and not too long, each marks the words
-- of the row before it, and no bit is set from the bound on
pub record IsLayered (bound : ℕ) (first second third fourth : List ℕ) : Type 0 where
  pub limit : bound < 16777216
  pub in_first : bound ≤ 64 * length first
  pub in_second : bound ≤ 4096 * length second
  pub in_third : bound ≤ 262144 * length third
  pub in_fourth : bound ≤ 16777216 * length fourth
  pub first_short : length first ≤ 262144
  pub second_short : length second ≤ 262144
  pub third_short : length third ≤ 262144
  pub fourth_short : length fourth ≤ 1
  pub second_marks : Marks second first
  pub third_marks : Marks third second
  pub fourth_marks : Marks fourth third
  pub none_past : (n : ℕ) → bound ≤ n → bit_in first n ≡ 0
