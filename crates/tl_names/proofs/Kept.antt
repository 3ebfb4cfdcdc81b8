-- The tables stand for the changed names where one name changed in both.
use Rattle.std.proofs.Common.{◌≡◌, ℕ, Bool, true, false, List, [], Option, Some, None, refl, sym, ap, ◌∙◌, subst, inl, inr, ◌⊎◌}
use Rattle.std.specs.BTreeMap.{insert_entry}
use Rattle.std.specs.Cmp.Lexicographic.{slice_cmp}
use Rattle.std.specs.Map.{lookup, remove_entry}
use Rattle.std.specs.Option.{option_map}
use Rattle.std.specs.Ordering.{nat_cmp}
use Rattle.std.specs.Str.{bytes_eq}
use Rattle.std.proofs.lemmas.Bool.{true≢false, cond-true, cond-false, cases_eq}
use Rattle.tl_types.specs.Same.{path_same, path_same-Decides}
use Rattle.tl_model.specs.Namespace.{PathOf, Node, Names, node_at, with_name, without_name, with_pin, with_pinned}
use Rattle.tl_model.specs.Replies.{and_then}
use Rattle.tl_names.specs.declared.child.Child.{Child}
use Rattle.tl_names.specs.declared.child.Child.TheVariants.{Dir, File}
use Rattle.tl_names.specs.Tables.{Dirs, children_at, child_at, found_child, walk_from, node_found, node_in, with_child, without_child, IsKnown, IsTree}
use Rattle.tl_names.specs.Standing.{HasEachOnce, StandsFor}
use Rattle.tl_names.proofs.Ascending.{Ascends, inserted_ascends, removed_ascends}
use Rattle.tl_names.proofs.Below.{paths_apart, same_path}
use Rattle.tl_names.proofs.Changes.{OneChanged, IsLeaf, LeafChanged}
use Rattle.tl_names.proofs.Entries.{by_bytes, inserted_here, inserted_apart, removed_apart}
use Rattle.tl_names.proofs.Lookups.{without_here, without_apart, without_once, pinned_here, pinned_apart, pinned_once}
use Rattle.tl_names.proofs.Trees.{set_here, set_apart, set_ascends}

-- ---- leaves

pub no_leaf : (dirs : Dirs) → IsLeaf dirs None
no_leaf dirs = record { nothing = λ m rest. refl }

pub file_leaf : (dirs : Dirs) (x : Child) (o : Option Child) → o ≡ Some x → ((d : ℕ) → x ≡ Dir d → ⊥) → IsLeaf dirs o
file_leaf dirs (Dir d) o is file_is = absurd (file_is d refl)
file_leaf dirs (File f b) o is file_is = subst (IsLeaf dirs) (sym is) (record { nothing = λ m rest. refl })

pub empty_leaf : (dirs : Dirs) (d : ℕ) → children_at dirs d ≡ [] → IsLeaf dirs (Some (Dir d))
empty_leaf dirs d empty = record { nothing = λ m rest. ap (λ names. node_found (and_then (found_child (lookup (bytes_eq m) names)) (walk_from dirs rest))) empty }

-- ---- changes of the list of names

pub record NamesChanged (old new : Names) (path : PathOf) (o : Option Node) : Type 0 where
  pub here : node_at new path ≡ o
  pub others : (q : PathOf) → (q ≡ path → ⊥) → node_at new q ≡ node_at old q
  pub once : HasEachOnce new

pub stands_changed : (old new : Dirs) (names after : Names) (path : PathOf) (o : Option Child) → StandsFor old names → LeafChanged old new path o →
    NamesChanged names after path (node_found (found_child o)) → StandsFor new after
stands_changed old new names after path o stands leaf changed = record { found = λ q. by q (path_same q path) refl; once = changed.once }
  where
    by : (q : PathOf) (b : Bool) → path_same q path ≡ b → node_in new q ≡ node_at after q
    by q true same =
        let is : q ≡ path = (path_same-Decides q path).0 same in
        ap (node_in new) is ∙ leaf.here ∙ sym changed.here ∙ ap (node_at after) (sym is)
    by q false apart =
        let off : q ≡ path → ⊥ = λ same. true≢false (sym ((path_same-Decides q path).1 same) ∙ apart) in
        leaf.others q off ∙ stands.found q ∙ sym (changed.others q off)

pub name_added : (names : Names) (path : PathOf) (node : Node) → HasEachOnce names → NamesChanged names (with_name names path node) path (Some node)
name_added names path node once = record {
  here = cond-true (path_same path path) (Some node) (node_at (without_name names path) path) (same_path path);
  others = λ q apart. cond-false (path_same q path) (Some node) (node_at (without_name names path) q) (paths_apart q path apart) ∙ without_apart path q names apart;
  once = (without_here path names, without_once path names once);
}

pub name_removed : (names : Names) (path : PathOf) → HasEachOnce names → NamesChanged names (without_name names path) path None
name_removed names path once = record { here = without_here path names; others = λ q apart. without_apart path q names apart; once = without_once path names once }

pub name_pinned : (names : Names) (path : PathOf) (pinned : Bool) → HasEachOnce names → NamesChanged names (with_pinned names path pinned) path (option_map (with_pin pinned) (node_at names path))
name_pinned names path pinned once = record { here = pinned_here path pinned names; others = λ q apart. pinned_apart path q pinned names apart; once = pinned_once path pinned names once }

-- ---- changes of one name in a directory

pub child_set : (dirs : Dirs) (d : ℕ) (n : List ℕ) (x : Child) → IsKnown dirs d → child_at (with_child dirs d n x) d n ≡ Some x
child_set dirs d n x known =
    ap (lookup (bytes_eq n)) (set_here dirs d (insert_entry (slice_cmp nat_cmp) (children_at dirs d) n x) known) ∙ inserted_here (slice_cmp nat_cmp) bytes_eq by_bytes n x (children_at dirs d)

pub set_one : (dirs : Dirs) (d : ℕ) (n : List ℕ) (x : Child) → IsKnown dirs d → OneChanged dirs (with_child dirs d n x) d n
set_one dirs d n x known = record { others = λ e m apart. by e m apart (cases_eq e d) }
  where
    by : (e : ℕ) (m : List ℕ) → ((e ≡ d) × (m ≡ n) → ⊥) → (e ≡ d) ⊎ (e ≡ d → ⊥) → child_at (with_child dirs d n x) e m ≡ child_at dirs e m
    by e m apart (inr off) = ap (lookup (bytes_eq m)) (set_apart dirs d e (Some (insert_entry (slice_cmp nat_cmp) (children_at dirs d) n x)) off)
    by e m apart (inl same) =
        ap (λ k. child_at (with_child dirs d n x) k m) same
        ∙ ap (lookup (bytes_eq m)) (set_here dirs d (insert_entry (slice_cmp nat_cmp) (children_at dirs d) n x) known)
        ∙ inserted_apart (slice_cmp nat_cmp) bytes_eq by_bytes n m x (children_at dirs d) (λ is. apart (same, is))
        ∙ ap (λ k. child_at dirs k m) (sym same)

pub unset_one : (dirs : Dirs) (d : ℕ) (n : List ℕ) → IsKnown dirs d → OneChanged dirs (without_child dirs d n) d n
unset_one dirs d n known = record { others = λ e m apart. by e m apart (cases_eq e d) }
  where
    by : (e : ℕ) (m : List ℕ) → ((e ≡ d) × (m ≡ n) → ⊥) → (e ≡ d) ⊎ (e ≡ d → ⊥) → child_at (without_child dirs d n) e m ≡ child_at dirs e m
    by e m apart (inr off) = ap (lookup (bytes_eq m)) (set_apart dirs d e (Some (remove_entry (bytes_eq n) (children_at dirs d))) off)
    by e m apart (inl same) =
        ap (λ k. child_at (without_child dirs d n) k m) same
        ∙ ap (lookup (bytes_eq m)) (set_here dirs d (remove_entry (bytes_eq n) (children_at dirs d)) known)
        ∙ removed_apart (slice_cmp nat_cmp) bytes_eq by_bytes n m (children_at dirs d) (λ is. apart (same, is))
        ∙ ap (λ k. child_at dirs k m) (sym same)

-- ---- the names still ascend

pub with_ascends : (dirs : Dirs) (d : ℕ) (n : List ℕ) (x : Child) → IsTree dirs → IsKnown dirs d → (e : ℕ) → Ascends (children_at (with_child dirs d n x) e)
with_ascends dirs d n x tree known = set_ascends dirs d (insert_entry (slice_cmp nat_cmp) (children_at dirs d) n x) known tree.ascending (inserted_ascends n x (children_at dirs d) (tree.ascending d))

pub without_ascends : (dirs : Dirs) (d : ℕ) (n : List ℕ) → IsTree dirs → IsKnown dirs d → (e : ℕ) → Ascends (children_at (without_child dirs d n) e)
without_ascends dirs d n tree known = set_ascends dirs d (remove_entry (bytes_eq n) (children_at dirs d)) known tree.ascending (removed_ascends n (children_at dirs d) (tree.ascending d))
