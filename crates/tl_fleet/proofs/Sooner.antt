-- Which of two files is evicted sooner.
use Rattle.std.proofs.Common.{◌≡◌, ℕ, ◌<◌, ◌≤◌, ◌⊎◌, inl, inr, Bool, true, false, cond, refl, ap, arith}
use Rattle.std.proofs.lemmas.Bool.{ltb-true, lt-ltb}
use Rattle.std.proofs.lemmas.Bool.Decides.{Decides-eqb}
use Rattle.std.specs.Prelude.{nat_lt, ◌==◌}
use Rattle.std.specs.Ordering.{nat_cmp, ordering_then}
use Rattle.std.specs.declared.cmp.Ordering.{Ordering}
use Rattle.std.specs.declared.cmp.Ordering.TheVariants.{Less, Equal, Greater}
use Rattle.tl_types.specs.Same.{file_cmp}
use Rattle.tl_types.specs.declared.file_id.FileId.{FileId}
use Rattle.tl_fleet.specs.Order.{IsSooner}

test_cmp : Bool → Bool → Ordering
test_cmp less same = cond less Less (cond same Equal Greater)

less_at : (less same later last : Bool) → ordering_then (cond less Less (cond same Equal Greater)) (cond later Less (cond last Equal Greater)) ≡ Less →
    (less ≡ true) ⊎ ((same ≡ true) × (later ≡ true))
less_at true same later last h = inl refl
less_at false true true last h = inr (refl, refl)
less_at false true false true h = absurd (cc)
less_at false true false false h = absurd (cc)
less_at false false later last h = absurd (cc)

less_from : (less same later last : Bool) → same ≡ true → later ≡ true → ordering_then (cond less Less (cond same Equal Greater)) (cond later Less (cond last Equal Greater)) ≡ Less
less_from true same later last s l = refl
less_from false true true last s l = refl
less_from false true false last s l = absurd (cc)
less_from false false later last s l = absurd (cc)

-- by record, then by output
pub lesser_cases : (g f : FileId) → file_cmp g f ≡ Less → (g.rec.0 < f.rec.0) ⊎ ((g.rec.0 ≡ f.rec.0) × (g.out < f.out))
lesser_cases g f h = elim (less_at (nat_lt g.rec.0 f.rec.0) (g.rec.0 == f.rec.0) (nat_lt g.out f.out) (g.out == f.out) h) [
  | inl t ↦ inl (ltb-true g.rec.0 f.rec.0 t)
  | inr t ↦ inr ((Decides-eqb g.rec.0 f.rec.0).0 t.0, ltb-true g.out f.out t.1)
]

pub lesser_record : (g f : FileId) → g.rec.0 < f.rec.0 → file_cmp g f ≡ Less
lesser_record g f l = ap (λ b. ordering_then (cond b Less (cond (g.rec.0 == f.rec.0) Equal Greater)) (nat_cmp g.out f.out)) (lt-ltb g.rec.0 f.rec.0 l)

pub lesser_output : (g f : FileId) → g.rec.0 ≡ f.rec.0 → g.out < f.out → file_cmp g f ≡ Less
lesser_output g f same l =
    less_from (nat_lt g.rec.0 f.rec.0) (g.rec.0 == f.rec.0) (nat_lt g.out f.out) (g.out == f.out) ((Decides-eqb g.rec.0 f.rec.0).1 same) (lt-ltb g.out f.out l)

pub lesser_asym : (g f : FileId) → file_cmp g f ≡ Less → file_cmp f g ≡ Less → ⊥
lesser_asym g f h k = elim (lesser_cases g f h) [
  | inl a ↦ elim (lesser_cases f g k) [ inl b ↦ omega arith | inr b ↦ let e : f.rec.0 ≡ g.rec.0 = b.0 in omega arith ]
  | inr a ↦ elim (lesser_cases f g k) [
    | inl b ↦ let e : g.rec.0 ≡ f.rec.0 = a.0 in omega arith
    | inr b ↦ let l : g.out < f.out = a.1 in let m : f.out < g.out = b.1 in omega arith
  ]
]

pub sooner_asym : (recency : FileId → ℕ) (g f : FileId) → IsSooner recency g f → IsSooner recency f g → ⊥
sooner_asym recency g f h k = elim h [
  | inl a ↦ elim k [ inl b ↦ omega arith | inr b ↦ let e : recency f ≡ recency g = b.0 in omega arith ]
  | inr a ↦ elim k [
    | inl b ↦ let e : recency g ≡ recency f = a.0 in omega arith
    | inr b ↦ lesser_asym g f a.1 b.1
  ]
]

pub sooner_le : (recency : FileId → ℕ) (g f : FileId) → IsSooner recency g f → recency g ≤ recency f
sooner_le recency g f h = elim h [ inl a ↦ omega arith | inr a ↦ let e : recency g ≡ recency f = a.0 in omega arith ]
