-- The first tables, and what a walk of them finds.
use Rattle.std.proofs.Common.{◌≡◌, ℕ, List, [], ◌∷◌, Some, None, Result, refl, sym, ap, ◌∙◌, subst, inl, inr, ◌⊎◌}
use Rattle.std.specs.Prelude.{IsSome, unwrap_or, slice_index_or}
use Rattle.std.specs.List.Sorted.{IsStrictlySortedBy}
use Rattle.std.specs.Map.{lookup}
use Rattle.std.specs.Str.{bytes_eq}
use Rattle.std.proofs.lemmas.Bool.{cases_eq}
use Rattle.std.proofs.lemmas.Option.{none-some}
use Rattle.slab.specs.Slab.{Slab, Updates, get}
use Rattle.tl_model.specs.declared.reply.Reply.{Reply}
use Rattle.tl_model.specs.Namespace.{PathOf, Names, no_names, node_at}
use Rattle.tl_model.specs.Replies.{and_then, walk}
use Rattle.tl_names.specs.declared.child.Child.{Child}
use Rattle.tl_names.specs.declared.child.Child.TheVariants.{Dir}
use Rattle.tl_names.specs.Found.{found}
use Rattle.tl_names.specs.Standing.{StandsFor}
use Rattle.tl_names.specs.Tables.{Children, Dirs, children_at, child_at, found_child, node_found, node_in, place, walk_from, IsTree}
use Rattle.tl_names.proofs.Ascending.{Ascends}
use Rattle.tl_names.proofs.Replied.{found_as, walk_same}

-- one directory with no names, of number 0
pub record IsFirst (dirs : Dirs) : Type 0 where
  pub root : slice_index_or dirs 0 None ≡ Some []
  pub others : (d : ℕ) → (d ≡ 0 → ⊥) → slice_index_or dirs d None ≡ None

pub is_first : (old new : Slab Children) (key : ℕ) → old.slots ≡ [] → old.vacant_key ≡ 0 → key ≡ old.vacant_key → Updates old new key (Some []) → IsFirst new.slots
is_first old new key empty zero_key key_is updates =
    let at : key ≡ 0 = key_is ∙ zero_key in
    record {
      root = ap (get new) (sym at) ∙ updates.changed;
      others = λ d apart. updates.others d (λ d_is. apart (d_is ∙ at)) ∙ ap (λ slots. slice_index_or slots d None) empty;
    }

no_children : (dirs : Dirs) → IsFirst dirs → (d : ℕ) → children_at dirs d ≡ []
no_children dirs first d = by (cases_eq d 0)
  where
    by : (d ≡ 0) ⊎ (d ≡ 0 → ⊥) → children_at dirs d ≡ []
    by (inl at) = ap (children_at dirs) at ∙ ap (λ o. unwrap_or o []) first.root
    by (inr apart) = ap (λ o. unwrap_or o []) (first.others d apart)

no_child : (dirs : Dirs) → IsFirst dirs → (d : ℕ) (n : List ℕ) → child_at dirs d n ≡ None
no_child dirs first d n = ap (lookup (bytes_eq n)) (no_children dirs first d)

empty_ascends : (names : Children) → names ≡ [] → Ascends names
unfolding IsStrictlySortedBy
empty_ascends [] is = tt
empty_ascends (n ∷ names) is = absurd cc

pub first_tree : (dirs : Dirs) → IsFirst dirs → IsTree dirs
first_tree dirs first = record {
  root = subst IsSome (sym first.root) refl;
  ascending = λ d. empty_ascends (children_at dirs d) (no_children dirs first d);
  known = λ d e n is. absurd (none-some (Dir e) (sym (no_child dirs first d n) ∙ is));
  top = λ d n is. none-some (Dir 0) (sym (no_child dirs first d n) ∙ is);
  once = λ c d e n m is also. absurd (none-some (Dir e) (sym (no_child dirs first c n) ∙ is));
}

pub first_stands : (dirs : Dirs) → IsFirst dirs → StandsFor dirs no_names
first_stands dirs first = record { found = by; once = (refl, tt) }
  where
    by : (path : PathOf) → node_in dirs path ≡ node_at no_names path
    by [] = refl
    by (n ∷ rest) = ap (λ o. node_found (and_then (found_child o) (walk_from dirs rest))) (no_child dirs first 0 n)

pub resolved : (dirs : Dirs) (names : Names) → StandsFor dirs names → (path : PathOf) (r : Result Child Reply) → place dirs path ≡ r → found (found_as r) ≡ found (walk names path)
resolved dirs names stands path r at = ap found (sym (walk_same dirs names stands path ∙ ap found_as at))
