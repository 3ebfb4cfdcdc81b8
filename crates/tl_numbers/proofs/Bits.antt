-- The first and the last bit of a word that are set.
use Rattle.std.proofs.Common.{◌≡◌, ℕ, suc, ◌-◌, ◌/◌, ◌^◌, ◌<◌, ◌≤◌, Some, None, bit_and, ap, inl, inr, arith, pow_pos, w64}
use Rattle.std.proofs.Math.Nat.{two-pow-succ}
use Rattle.std.specs.Int.{bit_at, leading_zeros, trailing_zeros}
use Rattle.std.proofs.lemmas.Bool.{cases_lt}
use Rattle.std.proofs.lemmas.Nat.{div_below, le-div, leading_top}
use Rattle.std.proofs.lemmas.Nat.Bits.{bit_at-lt, bit_at-trailing_zeros, bit_at-zero, bit_at_above, bit_at_and, bit_at_mask_below, bit_at_mask_inside, bit_at_ones, bit_at_ones_above}
use Rattle.tl_numbers.specs.Places.{IsFirstFrom, IsLastBelow}

-- the last bit of a number
top-bit : (word j : ℕ) → 2 ^ j ≤ word → word < 2 ^ suc j → bit_at word j ≡ 1
top-bit word j low high =
    let below : word / 2 ^ j < 2 = div_below word (2 ^ j) 2 (pow_pos j) (omega (arith, two-pow-succ j)) in
    let above : 1 ≤ word / 2 ^ j = le-div 1 word (2 ^ j) (pow_pos j) (omega arith) in
    omega arith

pub highest-last : (word : ℕ) → 0 < word → word < 2 ^ 64 → IsLastBelow (bit_at word) 64 (Some (63 - leading_zeros w64 word))
highest-last word some fits =
    let top = leading_top 64 word some fits in
    let place : 63 - leading_zeros w64 word ≡ top.0 = omega (arith, top.1) in
    rw place (omega (arith, top.1), top-bit word top.0 top.2 top.3, λ k after within. bit_at_above word (suc top.0) k top.3 (omega arith))

pub lowest-first : (word : ℕ) → 0 < word → word < 2 ^ 64 → IsFirstFrom (bit_at word) 0 (Some (trailing_zeros w64 word))
lowest-first word some fits =
    let low = bit_at-trailing_zeros w64 word some fits in
    (omega arith, low.1, λ k from before. low.2 k before)

-- a mask leaves the bits below n
low-inside : (word n k : ℕ) → k < n → bit_at (bit_and word (2 ^ n - 1)) k ≡ bit_at word k
low-inside word n k h = omega (arith, bit_at_and word (2 ^ n - 1) k, bit_at_ones n k h, bit_at-lt word k)

low-outside : (word n k : ℕ) → n ≤ k → bit_at (bit_and word (2 ^ n - 1)) k ≡ 0
low-outside word n k h = omega (arith, bit_at_and word (2 ^ n - 1) k, bit_at_ones_above n k h)

-- a mask leaves the bits from n on
high-inside : (word n k : ℕ) → n ≤ k → k < 64 → bit_at (bit_and word (2 ^ 64 - 2 ^ n)) k ≡ bit_at word k
high-inside word n k from within = omega (arith, bit_at_and word (2 ^ 64 - 2 ^ n) k, bit_at_mask_inside n 64 k from within, bit_at-lt word k)

high-outside : (word n k : ℕ) → k < n → bit_at (bit_and word (2 ^ 64 - 2 ^ n)) k ≡ 0
high-outside word n k h = omega (arith, bit_at_and word (2 ^ 64 - 2 ^ n) k, bit_at_mask_below n 64 k h)

pub none-below : (word n : ℕ) → bit_and word (2 ^ n - 1) ≡ 0 → IsLastBelow (bit_at word) n None
none-below word n zero k h = omega (arith, low-inside word n k h, ap (λ w. bit_at w k) zero, bit_at-zero k)

pub last-below : (word n last : ℕ) → n < 64 → IsLastBelow (bit_at (bit_and word (2 ^ n - 1))) 64 (Some last) → IsLastBelow (bit_at word) n (Some last)
last-below word n last small (within, set, after) =
    elim (cases_lt last n) [
      | inl below ↦ (
        below,
        omega (arith, low-inside word n last below),
        λ k later h. omega (arith, low-inside word n k h, after k later (omega arith)),
      )
      | inr above ↦ absurd (omega (arith, low-outside word n last above))
    ]

pub none-from : (word n : ℕ) → word < 2 ^ 64 → bit_and word (2 ^ 64 - 2 ^ n) ≡ 0 → IsFirstFrom (bit_at word) n None
none-from word n fits zero k h =
    elim (cases_lt k 64) [
      | inl within ↦ omega (arith, high-inside word n k h within, ap (λ w. bit_at w k) zero, bit_at-zero k)
      | inr past ↦ bit_at_above word 64 k fits past
    ]

pub first-from : (word n first : ℕ) → first < 64 → IsFirstFrom (bit_at (bit_and word (2 ^ 64 - 2 ^ n))) 0 (Some first) → IsFirstFrom (bit_at word) n (Some first)
first-from word n first within (_, set, before) =
    elim (cases_lt first n) [
      | inl below ↦ absurd (omega (arith, high-outside word n first below))
      | inr from ↦ (
        from,
        omega (arith, high-inside word n first from within),
        λ k later h. omega (arith, high-inside word n k later (omega arith), before k (omega arith) h),
      )
    ]
