-- The entries of a map in the order of its keys: what is found after a change.
use Rattle.std.proofs.Common.{◌≡◌, ℕ, Bool, true, false, cond, List, [], ◌∷◌, ◌++◌, append_assoc, map, Some, None, refl, sym, ap, ◌∙◌}
use Rattle.std.specs.Global.{Vec}
use Rattle.std.specs.Bool.{Decides}
use Rattle.std.specs.Cmp.{IsEquivalence, decided}
use Rattle.std.specs.List.{IsDistinct, AllByRecursion}
use Rattle.std.specs.List.Sorted.{IsStrictlySortedBy}
use Rattle.std.specs.Map.{lookup, remove_entry, keys_of}
use Rattle.std.specs.BTreeMap.{insert_entry, is_at}
use Rattle.std.specs.Cmp.Lexicographic.{slice_cmp}
use Rattle.std.specs.Ordering.{nat_cmp, is_eq, match_ordering}
use Rattle.std.specs.declared.cmp.Ordering.{Ordering}
use Rattle.std.specs.declared.cmp.Ordering.TheVariants.{Less, Equal, Greater}
use Rattle.std.specs.Str.{bytes_eq}
use Rattle.std.proofs.lemmas.Bool.{true≢false, cond-true, cond-false, false_from_ne_true}
use Rattle.std.proofs.lemmas.Map.{lookup-remove_entry}
use Rattle.std.proofs.lemmas.Map.Keys.{sorted_head, sorted_tail, IsDistinct-cons}
use Rattle.std.proofs.lemmas.Map.Text.{is_eq-slice_cmp}
use Rattle.std.proofs.lemmas.Option.{none-some}
use Rattle.std.proofs.lemmas.Slice.Eq.{bytes_eq-Decides}
use Rattle.tl_names.specs.declared.child.Child.{Child}
use Rattle.tl_model.specs.declared.reply.Entry.{Entry}
use Rattle.tl_names.specs.Tables.{Children, children_of, entry_in}

-- an order of keys, with its test of equality
pub record IsKeyed {K : Type 0} (cmp : K → K → Ordering) (eq : K → K → Bool) : Type 0 where
  pub ties : (a b : K) → is_eq (cmp a b) ≡ eq a b
  pub decides : (a b : K) → Decides (eq a b) (a ≡ b)

pub by_bytes : IsKeyed (slice_cmp nat_cmp) bytes_eq
by_bytes = record { ties = is_eq-slice_cmp; decides = bytes_eq-Decides }

module _ {K : Type 0} (cmp : K → K → Ordering) (eq : K → K → Bool) (keyed : IsKeyed cmp eq) where
  pub keys_apart : (a b : K) → (a ≡ b → ⊥) → eq a b ≡ false
  keys_apart a b apart = false_from_ne_true (eq a b) (λ is. apart ((keyed.decides a b).0 is))

  pub same_key : (a : K) → eq a a ≡ true
  same_key a = (keyed.decides a a).1 refl

  key_laws : IsEquivalence eq
  key_laws = decided eq keyed.decides

  is_equal : (a b : K) → cmp a b ≡ Equal → a ≡ b
  is_equal a b at = (keyed.decides a b).0 (sym (keyed.ties a b) ∙ ap is_eq at)

module _ {K X : Type 0} (cmp : K → K → Ordering) (eq : K → K → Bool) (keyed : IsKeyed cmp eq) where
  -- a name that was removed is gone
  pub removed_here : (name : K) (children : List (K × X)) → IsDistinct eq (keys_of children) → lookup (eq name) (remove_entry (eq name) children) ≡ None
  removed_here name children distinct =
      lookup-remove_entry (key_laws cmp eq keyed) (eq name) (λ x y at. (key_laws cmp eq keyed).congr name x y at) name children distinct
      ∙ cond-true (eq name name) None (lookup (eq name) children) (same_key cmp eq keyed name)

  -- another is found as before
  pub removed_apart : (name other : K) (children : List (K × X)) → (other ≡ name → ⊥) → lookup (eq other) (remove_entry (eq name) children) ≡ lookup (eq other) children
  removed_apart name other [] apart = refl
  removed_apart name other (e ∷ es) apart = by (eq name e.0) refl (removed_apart name other es apart)
    where
      by : (b : Bool) → eq name e.0 ≡ b → lookup (eq other) (remove_entry (eq name) es) ≡ lookup (eq other) es →
          lookup (eq other) (cond b es (e ∷ remove_entry (eq name) es)) ≡ lookup (eq other) (e ∷ es)
      by true at more =
          let else_where : eq other e.0 ≡ false = keys_apart cmp eq keyed other e.0 (λ is. apart (is ∙ sym ((keyed.decides name e.0).0 at))) in
          sym (cond-false (eq other e.0) (Some e.1) (lookup (eq other) es) else_where)
      by false at more = ap (cond (eq other e.0) (Some e.1)) more

  -- a name that was put in is found
  pub inserted_here : (name : K) (child : X) (children : List (K × X)) → lookup (eq name) (insert_entry cmp children name child) ≡ Some child
  inserted_here name child [] = cond-true (eq name name) (Some child) None (same_key cmp eq keyed name)
  inserted_here name child (e ∷ es) = by (cmp name e.0) refl (inserted_here name child es)
    where
      by : (o : Ordering) → cmp name e.0 ≡ o → lookup (eq name) (insert_entry cmp es name child) ≡ Some child →
          lookup (eq name) (match_ordering o ((name, child) ∷ e ∷ es) ((e.0, child) ∷ es) (e ∷ insert_entry cmp es name child)) ≡ Some child
      by Less at more = cond-true (eq name name) (Some child) (lookup (eq name) (e ∷ es)) (same_key cmp eq keyed name)
      by Equal at more = cond-true (eq name e.0) (Some child) (lookup (eq name) es) (sym (keyed.ties name e.0) ∙ ap is_eq at)
      by Greater at more =
          cond-false (eq name e.0) (Some e.1) (lookup (eq name) (insert_entry cmp es name child)) (sym (keyed.ties name e.0) ∙ ap is_eq at)
          ∙ more

  pub inserted_apart : (name other : K) (child : X) (children : List (K × X)) → (other ≡ name → ⊥) →
      lookup (eq other) (insert_entry cmp children name child) ≡ lookup (eq other) children
  inserted_apart name other child [] apart = cond-false (eq other name) (Some child) None (keys_apart cmp eq keyed other name apart)
  inserted_apart name other child (e ∷ es) apart = by (cmp name e.0) refl (inserted_apart name other child es apart)
    where
      by : (o : Ordering) → cmp name e.0 ≡ o → lookup (eq other) (insert_entry cmp es name child) ≡ lookup (eq other) es →
          lookup (eq other) (match_ordering o ((name, child) ∷ e ∷ es) ((e.0, child) ∷ es) (e ∷ insert_entry cmp es name child)) ≡ lookup (eq other) (e ∷ es)
      by Less at more = cond-false (eq other name) (Some child) (lookup (eq other) (e ∷ es)) (keys_apart cmp eq keyed other name apart)
      by Equal at more =
          let else_where : eq other e.0 ≡ false = keys_apart cmp eq keyed other e.0 (λ is. apart (is ∙ sym (is_equal cmp eq keyed name e.0 at))) in
          cond-false (eq other e.0) (Some child) (lookup (eq other) es) else_where
          ∙ sym (cond-false (eq other e.0) (Some e.1) (lookup (eq other) es) else_where)
      by Greater at more = ap (cond (eq other e.0) (Some e.1)) more

  -- a new name that is removed again leaves what there was
  pub inserted_and_removed : (name : K) (child : X) (children : List (K × X)) → lookup (eq name) children ≡ None →
      remove_entry (eq name) (insert_entry cmp children name child) ≡ children
  inserted_and_removed name child [] new = cond-true (eq name name) [] ((name, child) ∷ []) (same_key cmp eq keyed name)
  inserted_and_removed name child (e ∷ es) new = by (cmp name e.0) refl (inserted_and_removed name child es (later (eq name e.0) refl new).1)
    where
      later : (b : Bool) → eq name e.0 ≡ b → cond b (Some e.1) (lookup (eq name) es) ≡ None → (b ≡ false) × (lookup (eq name) es ≡ None)
      later true at found = absurd (none-some e.1 (sym found))
      later false at found = (refl, found)

      by : (o : Ordering) → cmp name e.0 ≡ o → remove_entry (eq name) (insert_entry cmp es name child) ≡ es →
          remove_entry (eq name) (match_ordering o ((name, child) ∷ e ∷ es) ((e.0, child) ∷ es) (e ∷ insert_entry cmp es name child)) ≡ e ∷ es
      by Less at more = cond-true (eq name name) (e ∷ es) ((name, child) ∷ remove_entry (eq name) (e ∷ es)) (same_key cmp eq keyed name)
      by Equal at more = absurd (true≢false (sym (sym (keyed.ties name e.0) ∙ ap is_eq at) ∙ (later (eq name e.0) refl new).0))
      by Greater at more =
          cond-false (eq name e.0) (insert_entry cmp es name child) (e ∷ remove_entry (eq name) (insert_entry cmp es name child)) (later (eq name e.0) refl new).0
          ∙ ap (λ rest. e ∷ rest) more

-- how a query by bytes compares to a key
abbrev pub compared : List ℕ → Vec ℕ → Ordering
compared name key = slice_cmp nat_cmp name key.items

pub lookup_children : (name : List ℕ) (entries : List (Vec ℕ × Child)) →
    lookup (is_at (compared name)) entries ≡ lookup (bytes_eq name) (children_of entries)
lookup_children name [] = refl
lookup_children name (e ∷ es) =
    ap (λ b. cond b (Some e.1) (lookup (is_at (compared name)) es)) (is_eq-slice_cmp name e.0.items)
    ∙ ap (cond (bytes_eq name e.0.items) (Some e.1)) (lookup_children name es)

put_in : (o : Ordering) (key : Vec ℕ) (child : Child) (e : Vec ℕ × Child) (es later : List (Vec ℕ × Child)) (rest : Children) → children_of later ≡ rest →
    children_of (match_ordering o ((key, child) ∷ e ∷ es) ((e.0, child) ∷ es) (e ∷ later))
    ≡ match_ordering o ((key.items, child) ∷ children_of (e ∷ es)) ((e.0.items, child) ∷ children_of es) ((e.0.items, e.1) ∷ rest)
put_in Less key child e es later rest same = refl
put_in Equal key child e es later rest same = refl
put_in Greater key child e es later rest same = ap (λ more. (e.0.items, e.1) ∷ more) same

pub children_insert : (key : Vec ℕ) (child : Child) (entries : List (Vec ℕ × Child)) →
    children_of (insert_entry (λ a b. compared a.items b) entries key child) ≡ insert_entry (slice_cmp nat_cmp) (children_of entries) key.items child
children_insert key child [] = refl
children_insert key child (e ∷ es) = put_in (compared key.items e.0) key child e es _ _ (children_insert key child es)

taken : (b : Bool) (e : Vec ℕ × Child) (es later : List (Vec ℕ × Child)) (rest : Children) → children_of later ≡ rest →
    children_of (cond b es (e ∷ later)) ≡ cond b (children_of es) ((e.0.items, e.1) ∷ rest)
taken true e es later rest same = refl
taken false e es later rest same = ap (λ more. (e.0.items, e.1) ∷ more) same

pub children_remove : (name : List ℕ) (entries : List (Vec ℕ × Child)) →
    children_of (remove_entry (is_at (compared name)) entries) ≡ remove_entry (bytes_eq name) (children_of entries)
children_remove name [] = refl
children_remove name (e ∷ es) =
    taken (is_at (compared name) e.0) e es _ _ (children_remove name es)
    ∙ ap (λ b. cond b (children_of es) ((e.0.items, e.1) ∷ remove_entry (bytes_eq name) (children_of es))) (is_eq-slice_cmp name e.0.items)

-- the names of a directory differ
pub distinct_children : (entries : List (Vec ℕ × Child)) → IsStrictlySortedBy (λ a b. compared a.items b) (keys_of entries) → IsDistinct bytes_eq (keys_of (children_of entries))
unfolding IsDistinct
distinct_children [] sorted = tt
distinct_children (e ∷ es) sorted =
    IsDistinct-cons bytes_eq e.0.items (keys_of (children_of es)) (apart es (sorted_head _ e.0 (keys_of es) sorted)) (distinct_children es (sorted_tail _ e.0 (keys_of es) sorted))
  where
    apart : (rest : List (Vec ℕ × Child)) → AllByRecursion (λ key. compared e.0.items key ≡ Less) (keys_of rest) → AllByRecursion (λ name. bytes_eq e.0.items name ≡ false) (keys_of (children_of rest))
    apart [] less = tt
    apart (f ∷ fs) less = (sym (is_eq-slice_cmp e.0.items f.0.items) ∙ ap is_eq less.0, apart fs less.1)

-- a name that was removed from a directory is gone
pub gone_from : (name : List ℕ) (entries : List (Vec ℕ × Child)) → IsStrictlySortedBy (λ a b. compared a.items b) (keys_of entries) →
    lookup (bytes_eq name) (remove_entry (bytes_eq name) (children_of entries)) ≡ None
gone_from name entries sorted = removed_here (slice_cmp nat_cmp) bytes_eq by_bytes name (children_of entries) (distinct_children entries sorted)

-- a listing, one entry further
pub listed_more : (done more : List Entry) (entry : Entry) (e : Vec ℕ × Child) (left rest : List (Vec ℕ × Child)) (all : List Entry) → left ≡ e ∷ rest → entry ≡ entry_in (e.0.items, e.1) →
    more ≡ done ++ entry ∷ [] → done ++ map entry_in (children_of left) ≡ all → more ++ map entry_in (children_of rest) ≡ all
listed_more done more entry e left rest all is entry_is pushed so_far =
    ap (λ m. m ++ map entry_in (children_of rest)) pushed
    ∙ append_assoc done (entry ∷ []) (map entry_in (children_of rest))
    ∙ ap (λ x. done ++ x ∷ map entry_in (children_of rest)) entry_is
    ∙ ap (λ l. done ++ map entry_in (children_of l)) (sym is)
    ∙ so_far
