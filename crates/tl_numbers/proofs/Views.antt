-- The list that contracts see, by the bits of the first layer.
use Rattle.std.proofs.Common.{◌≡◌, ◌≢◌, ℕ, ◌-◌, ◌<◌, ◌≤◌, min, Bool, true, false, ◌==◌, List, ◌++◌, length, get_or, set, replicate, Option, Some, None, refl, sym, ap, ◌∙◌, inl, inr, arith, IsTrue, ◌↔◌, append-nil, eqb-true, length-append, length-set, get_or-set_same, get_or-set_other}
use Rattle.std.specs.Int.{from_bool}
use Rattle.std.proofs.lemmas.Bool.{cases_eq, cases_lt}
use Rattle.std.proofs.lemmas.List.{get_or-append_right, get_or-replicate, get_or_append_left, length-replicate}
use Rattle.std.proofs.lemmas.List.FromFn.{fill_by_all, get_or-map-range_with_len, length-map-range_with_len}
use Rattle.std.proofs.lemmas.Option.{get_or_from_slice_get, slice_get-get_or, slice_get_within}
use Rattle.tl_numbers.specs.Layers.{bit_in, members_of}
use Rattle.tl_numbers.specs.Members.{IsGreatest, IsGreatestBelow, IsLeastFrom, IsMember}
use Rattle.tl_numbers.specs.Places.{IsFirstFrom, IsLastBelow}

module _ (bound : ℕ) (words : List ℕ) where
  tests : ℕ → Bool
  tests k = bit_in words k == 1

  pub length-members : length (members_of bound words) ≡ bound
  length-members = length-map-range_with_len (λ k. bit_in words k == 1) 0 bound

  pub get-member : (k : ℕ) → k < bound → get_or (members_of bound words) k false ≡ (bit_in words k == 1)
  get-member k h = get_or-map-range_with_len (λ k. bit_in words k == 1) 0 bound k k false h (omega arith)

  pub is-member : (k : ℕ) → k < bound → bit_in words k ≡ 1 → IsMember (members_of bound words) k
  is-member k h bit =
      let within : k < length (members_of bound words) = omega (arith, length-members) in
      slice_get-get_or (members_of bound words) k false within ∙ ap Some (get-member k h ∙ ap (λ b. b == 1) bit)

  pub of-member : (k : ℕ) → IsMember (members_of bound words) k → (k < bound) × (bit_in words k ≡ 1)
  of-member k member =
      let within = slice_get_within (members_of bound words) k true member in
      let below : k < bound = omega (arith, length-members, within) in
      let found = get_or_from_slice_get (members_of bound words) k true false member in
      (below, eqb-true (bit_in words k) 1 (sym (get-member k below) ∙ found))

  pub greatest-below : (n : ℕ) (r : Option ℕ) → IsLastBelow (bit_in words) (min n bound) r → IsGreatestBelow (members_of bound words) n r
  greatest-below n None none =
      λ k h member.
      let found = of-member k member in
      let zero = none k (omega (arith, found.0)) in
      omega (arith, zero, found.1)
  greatest-below n (Some m) (below, bit, after) = (
    omega arith,
    is-member m (omega arith) bit,
    λ k h member.
        let found = of-member k member in
        elim (cases_lt m k) [
          | inl later ↦ let zero = after k later (omega (arith, found.0)) in absurd (omega (arith, zero, found.1))
          | inr upto ↦ upto
        ],
  )

  module _ (none_past : (n : ℕ) → bound ≤ n → bit_in words n ≡ 0) where
    pub least-from : (n : ℕ) (r : Option ℕ) → IsFirstFrom (bit_in words) n r → IsLeastFrom (members_of bound words) n r
    least-from n None none =
        λ k h member.
        let found = of-member k member in
        let zero = none k h in
        omega (arith, zero, found.1)
    least-from n (Some m) (from, bit, before) = (
      from,
      elim (cases_lt m bound) [
        | inl within ↦ is-member m within bit
        | inr past ↦ let zero = none_past m past in absurd (omega (arith, zero, bit))
      ],
      λ k h member.
          let found = of-member k member in
          elim (cases_lt k m) [
            | inl earlier ↦ let zero = before k h earlier in absurd (omega (arith, zero, found.1))
            | inr upto ↦ upto
          ],
    )

-- the test of a flag that was written
flag-of : (flag : Bool) → (from_bool flag == 1) ≡ flag
flag-of true = refl
flag-of false = refl

pub members-written : (bound n : ℕ) (flag : Bool) (words words' : List ℕ) → n < bound → bit_in words' n ≡ from_bool flag → ((k : ℕ) → k ≢ n → bit_in words' k ≡ bit_in words k) → members_of bound words' ≡ set (members_of bound words) n flag
members-written bound n flag words words' within here others =
    let old = members_of bound words in
    sym (
    fill_by_all (λ k. bit_in words' k == 1) (set old n flag) bound false
    (length-set old n flag ∙ length-members bound words)
    (λ k h.
    elim (cases_eq k n) [
      | inl same ↦
          rw same (
          get_or-set_same old n flag false (let fits : n < length old = omega (arith, length-members bound words) in fits)
          ∙ sym (ap (λ b. b == 1) here ∙ flag-of flag)
          )
      | inr differs ↦
          get_or-set_other old n k flag false differs ∙ get-member bound words k h ∙ sym (ap (λ b. b == 1) (others k differs))
    ])
    )

pub members-grown : (old bound : ℕ) (words words' : List ℕ) → old ≤ bound → ((n : ℕ) → old ≤ n → bit_in words n ≡ 0) → ((k : ℕ) → bit_in words' k ≡ bit_in words k) → members_of bound words' ≡ members_of old words ++ replicate (bound - length (members_of old words)) false
members-grown old bound words words' more none same =
    let members = members_of old words in
    let size : length members ≡ old = length-members old words in
    sym (
    fill_by_all (λ k. bit_in words' k == 1) (members ++ replicate (bound - length members) false) bound false
    (omega (arith, length-append members (replicate (bound - length members) false), length-replicate (bound - length members) false))
    (λ k h.
    elim (cases_lt k old) [
      | inl before ↦
          get_or_append_left members _ false k (omega arith) ∙ get-member old words k before ∙ sym (ap (λ b. b == 1) (same k))
      | inr past ↦
          get_or-append_right members (replicate (bound - length members) false) old k false size past
          ∙ get_or-replicate (bound - length members) (k - old) false false (omega arith)
          ∙ sym (ap (λ b. b == 1) (same k ∙ none k past))
    ])
    )

pub no-room : (members : List Bool) (bound : ℕ) → bound ≤ length members → members ≡ members ++ replicate (bound - length members) false
no-room members bound within =
    let none : bound - length members ≡ 0 = omega arith in
    rw none (sym (append-nil members))

pub within-bound : (bound : ℕ) (words : List ℕ) (members : List Bool) (n : ℕ) → members_of bound words ≡ members → n < length members → n < bound
within-bound bound words members n view within = omega (arith, ap length view, length-members bound words, within)

pub contains-by : (bound : ℕ) (words : List ℕ) → ((n : ℕ) → bound ≤ n → bit_in words n ≡ 0) → (n : ℕ) (test : Bool) → test ≡ (bit_in words n == 1) → IsTrue test ↔ IsMember (members_of bound words) n
contains-by bound words none_past n test is = (
  λ yes.
      let bit = eqb-true (bit_in words n) 1 (sym is ∙ yes) in
      elim (cases_lt n bound) [
        | inl within ↦ is-member bound words n within bit
        | inr past ↦ let zero = none_past n past in absurd (omega (arith, zero, bit))
      ],
  λ member. is ∙ ap (λ b. b == 1) (of-member bound words n member).1,
)

pub greatest-of : (members : List Bool) (bound : ℕ) → length members ≡ bound → (r : Option ℕ) → IsGreatestBelow members bound r → IsGreatest members r
greatest-of members bound size None none = λ k member. none k (omega (arith, slice_get_within members k true member, size)) member
greatest-of members bound size (Some m) (below, is, all) = (is, λ k member. all k (omega (arith, slice_get_within members k true member, size)) member)

pub members-erased : (bound : ℕ) (words : List ℕ) → ((k : ℕ) → bit_in words k ≡ 0) → members_of bound words ≡ replicate bound false
members-erased bound words none =
    sym (
    fill_by_all (λ k. bit_in words k == 1) (replicate bound false) bound false (length-replicate bound false)
    (λ k h. get_or-replicate bound k false false h ∙ sym (ap (λ b. b == 1) (none k)))
    )
