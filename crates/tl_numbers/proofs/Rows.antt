-- The bits of a row of words, by its words.
use Rattle.std.proofs.Common.{◌≡◌, ◌≢◌, ℕ, suc, ◌+◌, ◌-◌, ◌*◌, ◌/◌, ◌%◌, ◌<◌, ◌≤◌, min, Some, None, List, length, get_or, set, refl, ap, ◌∙◌, inl, inr, arith, get_or-set_same, get_or-set_other, zero, not, eqb}
use Rattle.std.specs.Int.{bit_at, from_bool}
use Rattle.std.proofs.lemmas.Bool.{cases_eq, cases_lt}
use Rattle.std.proofs.lemmas.Bool.Decides.{nat_tests}
use Rattle.std.proofs.lemmas.List.{get_or_past}
use Rattle.std.proofs.lemmas.Nat.Bits.{bit_at-zero}
use Rattle.tl_numbers.specs.Layers.{bit_in, mark_of}
use Rattle.tl_numbers.specs.Places.{IsFirstFrom, IsLastBelow}

pub bit-at : (words : List ℕ) (n : ℕ) → bit_in words n ≡ bit_at (get_or words (n / 64) 0) (n % 64)
unfolding bit_in
bit-at words n = refl

-- bit r of word j
pub bit-of : (words : List ℕ) (j r n : ℕ) → r < 64 → j * 64 + r ≡ n → bit_in words n ≡ bit_at (get_or words j 0) r
unfolding bit_in
bit-of words j r n small place =
    let word : n / 64 ≡ j = omega arith in
    let rest : n % 64 ≡ r = omega arith in
    rw (word, rest)

-- a word that is zero has no bit
pub unmarked : (words : List ℕ) (n : ℕ) → mark_of words (n / 64) ≡ 0 → bit_in words n ≡ 0
unfolding bit_in mark_of
unmarked words n none =
    let zero : get_or words (n / 64) 0 ≡ 0 = omega arith in
    rw zero (bit_at-zero (n % 64))

pub marked : (words : List ℕ) (j : ℕ) → mark_of words j ≡ 1 → 0 < get_or words j 0
unfolding mark_of
marked words j some = omega arith

pub last-here : (words : List ℕ) (n last : ℕ) → IsLastBelow (bit_at (get_or words (n / 64) 0)) (n % 64) (Some last) → IsLastBelow (bit_in words) n (Some (n / 64 * 64 + last))
last-here words n last (below, bit, after) = (
  omega arith,
  bit-of words (n / 64) last (n / 64 * 64 + last) (omega arith) refl ∙ bit,
  λ k later h.
      bit-of words (n / 64) (k - n / 64 * 64) k (omega arith) (omega arith) ∙ after (k - n / 64 * 64) (omega arith) (omega arith),
)

-- no bit of the word of n is below it
pub none-here : (words : List ℕ) (n k : ℕ) → IsLastBelow (bit_at (get_or words (n / 64) 0)) (n % 64) None → k < n → k / 64 ≡ n / 64 → bit_in words k ≡ 0
none-here words n k none h same = bit-of words (n / 64) (k % 64) k (omega arith) (omega arith) ∙ none (k % 64) (omega arith)

pub none-before : (words : List ℕ) (n : ℕ) → IsLastBelow (bit_at (get_or words (n / 64) 0)) (n % 64) None → IsLastBelow (mark_of words) (n / 64) None → IsLastBelow (bit_in words) n None
none-before words n here before k h =
    elim (cases_eq (k / 64) (n / 64)) [
      | inl same ↦ none-here words n k here h same
      | inr other ↦ unmarked words k (before (k / 64) (omega arith))
    ]

pub last-before : (words : List ℕ) (n j last : ℕ) → IsLastBelow (bit_at (get_or words (n / 64) 0)) (n % 64) None → IsLastBelow (mark_of words) (n / 64) (Some j) → IsLastBelow (bit_at (get_or words j 0)) 64 (Some last) → IsLastBelow (bit_in words) n (Some (j * 64 + last))
last-before words n j last here (earlier, mark, between) (below, bit, after) = (
  omega arith,
  bit-of words j last (j * 64 + last) below refl ∙ bit,
  λ k later h.
      elim (cases_eq (k / 64) (n / 64)) [
        | inl same ↦ none-here words n k here h same
        | inr other ↦
            elim (cases_eq (k / 64) j) [
              | inl found ↦ bit-of words j (k % 64) k (omega arith) (omega arith) ∙ after (k % 64) (omega arith) (omega arith)
              | inr past ↦ unmarked words k (between (k / 64) (omega arith) (omega arith))
            ]
      ],
)

pub first-here : (words : List ℕ) (n first : ℕ) → first < 64 → IsFirstFrom (bit_at (get_or words (n / 64) 0)) (n % 64) (Some first) → IsFirstFrom (bit_in words) n (Some (n / 64 * 64 + first))
first-here words n first small (from, bit, before) = (
  omega arith,
  bit-of words (n / 64) first (n / 64 * 64 + first) small refl ∙ bit,
  λ k later h.
      bit-of words (n / 64) (k - n / 64 * 64) k (omega arith) (omega arith) ∙ before (k - n / 64 * 64) (omega arith) (omega arith),
)

-- no bit of the word of n is at n or after it
pub none-on : (words : List ℕ) (n k : ℕ) → IsFirstFrom (bit_at (get_or words (n / 64) 0)) (n % 64) None → n ≤ k → k / 64 ≡ n / 64 → bit_in words k ≡ 0
none-on words n k none h same = bit-of words (n / 64) (k % 64) k (omega arith) (omega arith) ∙ none (k % 64) (omega arith)

pub none-after : (words : List ℕ) (n : ℕ) → IsFirstFrom (bit_at (get_or words (n / 64) 0)) (n % 64) None → IsFirstFrom (mark_of words) (n / 64 + 1) None → IsFirstFrom (bit_in words) n None
none-after words n here after k h =
    elim (cases_eq (k / 64) (n / 64)) [
      | inl same ↦ none-on words n k here h same
      | inr other ↦ unmarked words k (after (k / 64) (omega arith))
    ]

pub first-after : (words : List ℕ) (n j first : ℕ) → first < 64 → IsFirstFrom (bit_at (get_or words (n / 64) 0)) (n % 64) None → IsFirstFrom (mark_of words) (n / 64 + 1) (Some j) → IsFirstFrom (bit_at (get_or words j 0)) 0 (Some first) → IsFirstFrom (bit_in words) n (Some (j * 64 + first))
first-after words n j first small here (later, mark, between) (_, bit, before) = (
  omega arith,
  bit-of words j first (j * 64 + first) small refl ∙ bit,
  λ k from h.
      elim (cases_eq (k / 64) (n / 64)) [
        | inl same ↦ none-on words n k here from same
        | inr other ↦
            elim (cases_eq (k / 64) j) [
              | inl found ↦ bit-of words j (k % 64) k (omega arith) (omega arith) ∙ before (k % 64) (omega arith) (omega arith)
              | inr past ↦ unmarked words k (between (k / 64) (omega arith) (omega arith))
            ]
      ],
)

-- past the last word nothing is marked
pub marked-within : (words : List ℕ) (j : ℕ) → mark_of words j ≡ 1 → j < length words
unfolding mark_of
marked-within words j some =
    elim (cases_lt j (length words)) [
      | inl within ↦ within
      | inr past ↦ absurd (omega (arith, get_or_past words j 0 past))
    ]

pub unmarked-past : (words : List ℕ) (j : ℕ) → length words ≤ j → mark_of words j ≡ 0
unfolding mark_of
unmarked-past words j past = omega (arith, get_or_past words j 0 past)

-- what one word that is written does
module _ (words : List ℕ) (n word : ℕ) (within : n / 64 < length words) where
  pub written-here : bit_in (set words (n / 64) word) n ≡ bit_at word (n % 64)
  unfolding bit_in
  written-here = ap (λ w. bit_at w (n % 64)) (get_or-set_same words (n / 64) word 0 within)

  pub written-others : ((k : ℕ) → k < 64 → k ≢ n % 64 → bit_at word k ≡ bit_at (get_or words (n / 64) 0) k) → (k : ℕ) → k ≢ n → bit_in (set words (n / 64) word) k ≡ bit_in words k
  unfolding bit_in
  written-others kept k differs =
      elim (cases_eq (k / 64) (n / 64)) [
        | inl same ↦ rw (same, get_or-set_same words (n / 64) word 0 within) (kept (k % 64) (omega arith) (λ index. differs (omega arith)))
        | inr apart ↦ ap (λ w. bit_at w (k % 64)) (get_or-set_other words (n / 64) (k / 64) word 0 apart)
      ]

  pub written-mark : mark_of (set words (n / 64) word) (n / 64) ≡ min 1 word
  unfolding mark_of
  written-mark = ap (λ w. min 1 w) (get_or-set_same words (n / 64) word 0 within)

  pub written-marks : (j : ℕ) → j ≢ n / 64 → mark_of (set words (n / 64) word) j ≡ mark_of words j
  unfolding mark_of
  written-marks j differs = ap (λ w. min 1 w) (get_or-set_other words (n / 64) j word 0 differs)

-- the test of a word, as its mark
pub mark-test : (word : ℕ) → min 1 word ≡ from_bool (not (eqb word 0))
mark-test zero = refl
mark-test (suc word) = grind (arith, nat_tests)
