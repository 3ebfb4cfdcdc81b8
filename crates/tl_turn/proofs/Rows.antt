-- The views as a list: totals over them, and a view set or added.
use Rattle.std.proofs.Common.{◌≡◌, ◌≢◌, ◌⊎◌, ℕ, zero, suc, ◌+◌, ◌<◌, ◌≤◌, List, [], ◌∷◌, ◌++◌, length, get_or, set, refl, sym, ap, subst, inl, inr, ⊎_elim, arith, ◌∙◌}
use mathlib.Core.Option.{some, some-injective, some-ne-none}
use mathlib.Core.Logic.{dite}
use native.Mathlib.Decide.{ℕ_discrete}
use lib.ListN.{get_elem?}
use Rattle.atomic_table.proofs.Lists.{at_set, set_here, set_else}
use Rattle.tl_turn.specs.Law.{total}

pub set_same : (ns : List ℕ) (i : ℕ) → set ns i (get_or ns i 0) ≡ ns
set_same [] i = refl
set_same (n ∷ ns) zero = refl
set_same (n ∷ ns) (suc i) = ap (λ (ms : List ℕ). n ∷ ms) (set_same ns i)

module _ {V : Type 0} where
  pub at_end : (l : List V) (a b : V) (j : ℕ) → get_elem? (l ++ a ∷ []) j ≡ some b → (get_elem? l j ≡ some b) ⊎ ((j ≡ length l) × (a ≡ b))
  at_end [] a b zero e = inr (refl, some-injective a b e)
  at_end [] a b (suc j) e = absurd (some-ne-none b (sym e))
  at_end (x ∷ xs) a b zero e = inl e
  at_end (x ∷ xs) a b (suc j) e = ⊎_elim inl (λ t. inr (ap suc t.0, t.1)) (at_end xs a b j e)

  pub at_below : (l : List V) (j : ℕ) (a : V) → get_elem? l j ≡ some a → j < length l
  at_below [] j a e = absurd (some-ne-none a (sym e))
  at_below (x ∷ xs) zero a e = omega arith
  at_below (x ∷ xs) (suc j) a e = let h = at_below xs j a e in omega arith

  -- what holds of each view, after one was set
  pub each_set : (F : ℕ → V → Type 0) (views : List V) (id : ℕ) (w : V) → ((j : ℕ) (u : V) → j ≢ id → get_elem? views j ≡ some u → F j u) → F id w → (j : ℕ) (u : V) → get_elem? (set views id w) j ≡ some u → F j u
  each_set F views id w others mine j u e =
      ⊎_elim
      (λ (x : (j ≡ id) × (w ≡ u)). subst (λ (y : ℕ × V). F y.0 y.1) (λ i. (sym x.0 i, x.1 i)) mine)
      (λ (x : (j ≢ id) × (get_elem? views j ≡ some u)). others j u x.0 x.1)
      (at_set views id j w u e)

  -- the same after one was added
  pub each_end : (F : ℕ → V → Type 0) (views : List V) (w : V) → ((j : ℕ) (u : V) → get_elem? views j ≡ some u → F j u) → F (length views) w → (j : ℕ) (u : V) → get_elem? (views ++ w ∷ []) j ≡ some u → F j u
  each_end F views w others mine j u e =
      ⊎_elim
      (λ (x : get_elem? views j ≡ some u). others j u x)
      (λ (x : (j ≡ length views) × (w ≡ u)). subst (λ (y : ℕ × V). F y.0 y.1) (λ i. (sym x.0 i, x.1 i)) mine)
      (at_end views w u j e)

  -- what holds of some view still does, where one changes that goes on to hold
  pub some_set : (P : V → Type 0) (l : List V) (i : ℕ) (v w : V) → get_elem? l i ≡ some v → (P v → P w) → (j : ℕ) × (u : V) × (get_elem? l j ≡ some u) × P u → (j : ℕ) × (u : V) × (get_elem? (set l i w) j ≡ some u) × P u
  some_set P l i v w at step (j, u, e, f) = dite (ℕ_discrete j i)
      (λ same. let is : u ≡ v = some-injective u v (sym e ∙ ap (λ (k : ℕ). get_elem? l k) same ∙ at) in (i, w, set_here l i w (at_below l i v at), step (subst P is f)))
      (λ apart. (j, u, set_else l i j w apart ∙ e, f))

  pub total_set : (f : V → ℕ) (l : List V) (i : ℕ) (v w : V) → get_elem? l i ≡ some v → total f (set l i w) + f v ≡ total f l + f w
  total_set f [] i v w e = absurd (some-ne-none v (sym e))
  total_set f (x ∷ xs) zero v w e = let h = ap f (some-injective x v e) in omega arith
  total_set f (x ∷ xs) (suc i) v w e = let h = total_set f xs i v w e in omega arith

  pub total_end : (f : V → ℕ) (l : List V) (v : V) → total f (l ++ v ∷ []) ≡ total f l + f v
  total_end f [] v = omega arith
  total_end f (x ∷ xs) v = let h = total_end f xs v in omega arith

  pub total_below : (f g : V → ℕ) (l : List V) → ((v : V) → f v ≤ g v) → total f l ≤ total g l
  total_below f g [] h = omega arith
  total_below f g (x ∷ xs) h = let a = h x in let b = total_below f g xs h in omega arith

  -- the same, less what one view has over
  pub total_apart : (f g : V → ℕ) (l : List V) (i : ℕ) (v : V) → ((v : V) → f v ≤ g v) → get_elem? l i ≡ some v → total f l + g v ≤ total g l + f v
  total_apart f g [] i v h e = absurd (some-ne-none v (sym e))
  total_apart f g (x ∷ xs) zero v h e = let a = ap f (some-injective x v e) in let b = ap g (some-injective x v e) in let c = total_below f g xs h in omega arith
  total_apart f g (x ∷ xs) (suc i) v h e = let a = h x in let b = total_apart f g xs i v h e in omega arith

  total_one : (f : V → ℕ) (l : List V) (i : ℕ) (v : V) → get_elem? l i ≡ some v → f v ≤ total f l
  total_one f [] i v e = absurd (some-ne-none v (sym e))
  total_one f (x ∷ xs) zero v e = let a = ap f (some-injective x v e) in omega arith
  total_one f (x ∷ xs) (suc i) v e = let b = total_one f xs i v e in omega arith

  -- the views of two seats count both
  pub total_two : (f : V → ℕ) (l : List V) (i j : ℕ) (v u : V) → i ≢ j → get_elem? l i ≡ some v → get_elem? l j ≡ some u → f v + f u ≤ total f l
  total_two f [] i j v u apart e d = absurd (some-ne-none v (sym e))
  total_two f (x ∷ xs) zero zero v u apart e d = absurd (apart refl)
  total_two f (x ∷ xs) zero (suc j) v u apart e d = let a = ap f (some-injective x v e) in let b = total_one f xs j u d in omega arith
  total_two f (x ∷ xs) (suc i) zero v u apart e d = let a = ap f (some-injective x u d) in let b = total_one f xs i v e in omega arith
  total_two f (x ∷ xs) (suc i) (suc j) v u apart e d = let b = total_two f xs i j v u (λ same. apart (ap suc same)) e d in omega arith
