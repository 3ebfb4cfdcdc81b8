-- Names that ascend by their bytes, after a change too.
use Rattle.std.proofs.Common.{◌≡◌, ℕ, Bool, true, false, cond, List, [], ◌∷◌, Some, refl, sym, ap, ◌∙◌}
use Rattle.std.specs.Cmp.Lexicographic.{slice_cmp, nat_list_cmp_total}
use Rattle.std.specs.BTreeMap.{insert_entry}
use Rattle.std.specs.List.{AllByRecursion, IsDistinct}
use Rattle.std.specs.List.Sorted.{IsStrictlySortedBy}
use Rattle.std.specs.Map.{lookup, keys_of, remove_entry}
use Rattle.std.specs.Ordering.{nat_cmp, is_lt, is_eq, match_ordering, ordering_reverse}
use Rattle.std.specs.declared.cmp.Ordering.{Ordering}
use Rattle.std.specs.declared.cmp.Ordering.TheVariants.{Less, Equal, Greater}
use Rattle.std.specs.Str.{bytes_eq}
use Rattle.std.proofs.lemmas.Map.Keys.{sorted_head, sorted_tail}
use Rattle.std.proofs.lemmas.Map.Text.{is_eq-slice_cmp}
use Rattle.std.proofs.lemmas.Option.{none-some}
use Rattle.std.proofs.lemmas.Slice.Eq.{bytes_eq-Decides}

abbrev pub Ascends : {X : Type 0} → List (List ℕ × X) → Type 0
Ascends es = IsStrictlySortedBy (slice_cmp nat_cmp) (keys_of es)

pub distinct_names : {X : Type 0} → (es : List (List ℕ × X)) → Ascends es → IsDistinct bytes_eq (keys_of es)
unfolding IsDistinct
distinct_names {X} [] sorted = tt
distinct_names {X} (e ∷ es) sorted = (apart es (sorted_head _ e.0 (keys_of es) sorted), distinct_names es (sorted_tail _ e.0 (keys_of es) sorted))
  where
    apart : (rest : List (List ℕ × X)) → AllByRecursion (λ name. slice_cmp nat_cmp e.0 name ≡ Less) (keys_of rest) → AllByRecursion (λ name. bytes_eq e.0 name ≡ false) (keys_of rest)
    apart [] less = tt
    apart (f ∷ fs) less = (sym (is_eq-slice_cmp e.0 f.0) ∙ ap is_eq less.0, apart fs less.1)

-- what is less than all is less than what is found
pub less_than_found : {X : Type 0} → (m n : List ℕ) (v : X) (es : List (List ℕ × X)) → AllByRecursion (λ name. slice_cmp nat_cmp m name ≡ Less) (keys_of es) → lookup (bytes_eq n) es ≡ Some v → slice_cmp nat_cmp m n ≡ Less
less_than_found m n v [] less found = absurd (none-some v found)
less_than_found m n v (e ∷ es) less found = by (bytes_eq n e.0) refl found (less_than_found m n v es less.1)
  where
    by : (b : Bool) → bytes_eq n e.0 ≡ b → cond b (Some e.1) (lookup (bytes_eq n) es) ≡ Some v → (lookup (bytes_eq n) es ≡ Some v → slice_cmp nat_cmp m n ≡ Less) → slice_cmp nat_cmp m n ≡ Less
    by true same is more = ap (slice_cmp nat_cmp m) ((bytes_eq-Decides n e.0).0 same) ∙ less.0
    by false apart is more = more is

pub removed_less : {X : Type 0} → (m n : List ℕ) (es : List (List ℕ × X)) → AllByRecursion (λ name. slice_cmp nat_cmp m name ≡ Less) (keys_of es) → AllByRecursion (λ name. slice_cmp nat_cmp m name ≡ Less) (keys_of (remove_entry (bytes_eq n) es))
removed_less m n [] less = tt
removed_less m n (e ∷ es) less = by (bytes_eq n e.0) (removed_less m n es less.1)
  where
    by : (b : Bool) → AllByRecursion (λ name. slice_cmp nat_cmp m name ≡ Less) (keys_of (remove_entry (bytes_eq n) es)) →
        AllByRecursion (λ name. slice_cmp nat_cmp m name ≡ Less) (keys_of (cond b es (e ∷ remove_entry (bytes_eq n) es)))
    by true more = less.1
    by false more = (less.0, more)

pub removed_ascends : {X : Type 0} → (n : List ℕ) (es : List (List ℕ × X)) → Ascends es → Ascends (remove_entry (bytes_eq n) es)
unfolding IsStrictlySortedBy
removed_ascends n [] sorted = tt
removed_ascends n (e ∷ es) sorted = by (bytes_eq n e.0) (removed_ascends n es sorted.1)
  where
    by : (b : Bool) → Ascends (remove_entry (bytes_eq n) es) → Ascends (cond b es (e ∷ remove_entry (bytes_eq n) es))
    by true more = sorted.1
    by false more = (removed_less e.0 n es sorted.0, more)

pub not_before : (a b : List ℕ) → slice_cmp nat_cmp a b ≡ Less → is_lt (slice_cmp nat_cmp b a) ≡ false
not_before a b less = ap is_lt (nat_list_cmp_total.antisymm b a ∙ ap ordering_reverse less)

-- ---- a name put in

less_inserted : {X : Type 0} → (m n : List ℕ) (v : X) (es : List (List ℕ × X)) → slice_cmp nat_cmp m n ≡ Less → AllByRecursion (λ name. slice_cmp nat_cmp m name ≡ Less) (keys_of es) →
    AllByRecursion (λ name. slice_cmp nat_cmp m name ≡ Less) (keys_of (insert_entry (slice_cmp nat_cmp) es n v))
less_inserted m n v [] first less = (first, tt)
less_inserted m n v (e ∷ es) first less = by (slice_cmp nat_cmp n e.0) (less_inserted m n v es first less.1)
  where
    by : (o : Ordering) → AllByRecursion (λ name. slice_cmp nat_cmp m name ≡ Less) (keys_of (insert_entry (slice_cmp nat_cmp) es n v)) →
        AllByRecursion (λ name. slice_cmp nat_cmp m name ≡ Less) (keys_of (match_ordering o ((n, v) ∷ e ∷ es) ((e.0, v) ∷ es) (e ∷ insert_entry (slice_cmp nat_cmp) es n v)))
    by Less more = (first, less)
    by Equal more = less
    by Greater more = (less.0, more)

less_than_all : {X : Type 0} → (m n : List ℕ) (es : List (List ℕ × X)) → slice_cmp nat_cmp m n ≡ Less → AllByRecursion (λ name. slice_cmp nat_cmp n name ≡ Less) (keys_of es) →
    AllByRecursion (λ name. slice_cmp nat_cmp m name ≡ Less) (keys_of es)
less_than_all m n [] first less = tt
less_than_all m n (e ∷ es) first less = (nat_list_cmp_total.trans m n e.0 first less.0, less_than_all m n es first less.1)

pub inserted_ascends : {X : Type 0} → (n : List ℕ) (v : X) (es : List (List ℕ × X)) → Ascends es → Ascends (insert_entry (slice_cmp nat_cmp) es n v)
unfolding IsStrictlySortedBy
inserted_ascends n v [] sorted = (tt, tt)
inserted_ascends n v (e ∷ es) sorted = by (slice_cmp nat_cmp n e.0) refl (inserted_ascends n v es sorted.1)
  where
    by : (o : Ordering) → slice_cmp nat_cmp n e.0 ≡ o → Ascends (insert_entry (slice_cmp nat_cmp) es n v) →
        Ascends (match_ordering o ((n, v) ∷ e ∷ es) ((e.0, v) ∷ es) (e ∷ insert_entry (slice_cmp nat_cmp) es n v))
    by Less at more = ((at, less_than_all n e.0 es at sorted.0), sorted)
    by Equal at more = sorted
    by Greater at more = (less_inserted e.0 n v es (nat_list_cmp_total.antisymm e.0 n ∙ ap ordering_reverse at) sorted.0, more)
