-- The directories stay a tree when one name changes.
use Rattle.std.proofs.Common.{◌≡◌, ℕ, Bool, true, false, List, Option, Some, None, refl, sym, ap, ◌∙◌, subst, inl, inr, ◌⊎◌}
use Rattle.std.specs.Prelude.{IsSome, slice_set, unwrap_or, []}
use Rattle.std.specs.Map.{lookup}
use Rattle.std.specs.Str.{bytes_eq}
use Rattle.std.proofs.lemmas.Bool.{cases_eq, true≢false}
use Rattle.std.proofs.lemmas.List.{get_or-set_same, get_or-set_other}
use Rattle.std.proofs.lemmas.Slice.Eq.{bytes_eq-Decides}
use Rattle.tl_names.specs.declared.child.Child.{Child}
use Rattle.tl_names.specs.declared.child.Child.TheVariants.{Dir}
use Rattle.tl_names.specs.Tables.{Children, Dirs, children_at, child_at, IsKnown, IsTree}
use Rattle.tl_names.proofs.Ascending.{Ascends}
use Rattle.tl_names.proofs.Changes.{OneChanged}
use Rattle.tl_names.proofs.Rooms.{known_within}

-- ---- the names of a directory replaced

pub set_here : (dirs : Dirs) (d : ℕ) (names : Children) → IsKnown dirs d → children_at (slice_set dirs d (Some names)) d ≡ names
set_here dirs d names known = ap (λ o. unwrap_or o []) (get_or-set_same dirs d (Some names) None (known_within dirs d known))

pub set_apart : (dirs : Dirs) (d e : ℕ) (o : Option Children) → (e ≡ d → ⊥) → children_at (slice_set dirs d o) e ≡ children_at dirs e
set_apart dirs d e o apart = ap (λ o. unwrap_or o []) (get_or-set_other dirs d e o None apart)

pub set_known : (dirs : Dirs) (d e : ℕ) (names : Children) → IsKnown dirs e → IsKnown (slice_set dirs d (Some names)) e
set_known dirs d e names known = by (cases_eq e d)
  where
    by : (e ≡ d) ⊎ (e ≡ d → ⊥) → IsKnown (slice_set dirs d (Some names)) e
    by (inl same) =
        subst (λ k. IsKnown (slice_set dirs d (Some names)) k) (sym same)
        (subst IsSome (sym (get_or-set_same dirs d (Some names) None (known_within dirs d (subst (IsKnown dirs) same known)))) refl)
    by (inr apart) = subst IsSome (sym (get_or-set_other dirs d e (Some names) None apart)) known

-- where the new names ascend, those of every directory do
pub set_ascends : (dirs : Dirs) (d : ℕ) (names : Children) → IsKnown dirs d → ((e : ℕ) → Ascends (children_at dirs e)) → Ascends names → (e : ℕ) → Ascends (children_at (slice_set dirs d (Some names)) e)
set_ascends dirs d names known ascend sorted e = by (cases_eq e d)
  where
    by : (e ≡ d) ⊎ (e ≡ d → ⊥) → Ascends (children_at (slice_set dirs d (Some names)) e)
    by (inl same) = subst (λ k. Ascends (children_at (slice_set dirs d (Some names)) k)) (sym same) (subst (λ cs. Ascends cs) (sym (set_here dirs d names known)) sorted)
    by (inr apart) = subst (λ cs. Ascends cs) (sym (set_apart dirs d e (Some names) apart)) (ascend e)

-- ---- one name changes

pub same_name : (d e : ℕ) (n m : List ℕ) → ((e ≡ d) × (m ≡ n)) ⊎ ((e ≡ d) × (m ≡ n) → ⊥)
same_name d e n m = by (cases_eq e d) (bytes_eq m n) refl
  where
    by : (e ≡ d) ⊎ (e ≡ d → ⊥) → (b : Bool) → bytes_eq m n ≡ b → ((e ≡ d) × (m ≡ n)) ⊎ ((e ≡ d) × (m ≡ n) → ⊥)
    by (inr apart) b is = inr (λ both. apart both.0)
    by (inl same) true is = inl (same, (bytes_eq-Decides m n).0 is)
    by (inl same) false is = inr (λ both. true≢false (sym ((bytes_eq-Decides m n).1 both.1) ∙ is))

-- what a changed name may stand for: no directory, or one in use that no other name stands for
pub record IsFree (old new : Dirs) (d : ℕ) (n : List ℕ) : Type 0 where
  pub known : (k : ℕ) → child_at new d n ≡ Some (Dir k) → IsKnown new k
  pub below : child_at new d n ≡ Some (Dir 0) → ⊥
  pub alone : (c k : ℕ) (m : List ℕ) → child_at new d n ≡ Some (Dir k) → ((c ≡ d) × (m ≡ n) → ⊥) → child_at old c m ≡ Some (Dir k) → ⊥

pub tree_changed : (old new : Dirs) (d : ℕ) (n : List ℕ) → IsTree old → OneChanged old new d n → ((e : ℕ) → IsKnown old e → IsKnown new e) → ((e : ℕ) → Ascends (children_at new e)) → IsFree old new d n → IsTree new
tree_changed old new d n tree one keeps ascend free = record {
  root = keeps 0 tree.root;
  ascending = ascend;
  known = λ c e m is. known_by c e m is (same_name d c n m);
  top = λ c m is. top_by c m is (same_name d c n m);
  once = λ c e k m o is also. once_by c e k m o is also (same_name d c n m) (same_name d e n o);
}
  where
    at : (c : ℕ) (m : List ℕ) (x : Option Child) → (c ≡ d) × (m ≡ n) → child_at new c m ≡ x → child_at new d n ≡ x
    at c m x both is = ap (λ k. child_at new k n) (sym both.0) ∙ ap (child_at new c) (sym both.1) ∙ is

    known_by : (c e : ℕ) (m : List ℕ) → child_at new c m ≡ Some (Dir e) → ((c ≡ d) × (m ≡ n)) ⊎ ((c ≡ d) × (m ≡ n) → ⊥) → IsKnown new e
    known_by c e m is (inl both) = free.known e (at c m (Some (Dir e)) both is)
    known_by c e m is (inr apart) = keeps e (tree.known c e m (sym (one.others c m apart) ∙ is))

    top_by : (c : ℕ) (m : List ℕ) → child_at new c m ≡ Some (Dir 0) → ((c ≡ d) × (m ≡ n)) ⊎ ((c ≡ d) × (m ≡ n) → ⊥) → ⊥
    top_by c m is (inl both) = free.below (at c m (Some (Dir 0)) both is)
    top_by c m is (inr apart) = tree.top c m (sym (one.others c m apart) ∙ is)

    once_by : (c e k : ℕ) (m o : List ℕ) → child_at new c m ≡ Some (Dir k) → child_at new e o ≡ Some (Dir k) →
        ((c ≡ d) × (m ≡ n)) ⊎ ((c ≡ d) × (m ≡ n) → ⊥) → ((e ≡ d) × (o ≡ n)) ⊎ ((e ≡ d) × (o ≡ n) → ⊥) → (c ≡ e) × (m ≡ o)
    once_by c e k m o is also (inl both) (inl same) = (both.0 ∙ sym same.0, both.1 ∙ sym same.1)
    once_by c e k m o is also (inl both) (inr apart) = absurd (free.alone e k o (at c m (Some (Dir k)) both is) apart (sym (one.others e o apart) ∙ also))
    once_by c e k m o is also (inr apart) (inl same) = absurd (free.alone c k m (at e o (Some (Dir k)) same also) apart (sym (one.others c m apart) ∙ is))
    once_by c e k m o is also (inr apart) (inr off) = tree.once c e k m o (sym (one.others c m apart) ∙ is) (sym (one.others e o off) ∙ also)

-- the same names in each directory, though others may be in use
pub same_tree : (old new : Dirs) → IsTree old → ((d : ℕ) → children_at new d ≡ children_at old d) → IsKnown new 0 →
    ((d e : ℕ) (m : List ℕ) → child_at old d m ≡ Some (Dir e) → IsKnown new e) → IsTree new
same_tree old new tree same root known = record {
  root = root;
  ascending = λ d. subst (λ cs. Ascends cs) (sym (same d)) (tree.ascending d);
  known = λ d e m is. known d e m (back d m (Some (Dir e)) is);
  top = λ d m is. tree.top d m (back d m (Some (Dir 0)) is);
  once = λ c d e m o is also. tree.once c d e m o (back c m (Some (Dir e)) is) (back d o (Some (Dir e)) also);
}
  where
    back : (d : ℕ) (m : List ℕ) (x : Option Child) → child_at new d m ≡ x → child_at old d m ≡ x
    back d m x is = ap (lookup (bytes_eq m)) (sym (same d)) ∙ is
