-- The names in a directory, counted and listed.
use Rattle.std.proofs.Common.{◌≡◌, ℕ, ◌+◌, suc, Bool, true, false, cond, List, [], ◌∷◌, ◌++◌, length, drop, map, Option, Some, None, Ok, refl, sym, ap, ◌∙◌, subst, arith, length-append, append-nil}
use Rattle.std.specs.Prelude.{◌==◌}
use Rattle.std.specs.Cmp.Lexicographic.{slice_cmp}
use Rattle.std.specs.List.{AllByRecursion}
use Rattle.std.specs.List.Sorted.{IsStrictlySortedBy}
use Rattle.std.specs.Map.{lookup, keys_of, remove_entry}
use Rattle.std.specs.Option.{option_map}
use Rattle.std.specs.Ordering.{nat_cmp, is_lt}
use Rattle.std.specs.declared.cmp.Ordering.TheVariants.{Less}
use Rattle.std.specs.Str.{bytes_eq}
use Rattle.std.proofs.lemmas.Bool.{true≢false, cond-true, cond-false, and_parts, and_from, eqb-true, eq-eqb}
use Rattle.std.proofs.lemmas.Map.Keys.{sorted_head, sorted_tail}
use Rattle.std.proofs.lemmas.Option.{none-some}
use Rattle.std.proofs.lemmas.Slice.Eq.{bytes_eq-Decides}
use Rattle.tl_types.specs.Same.{path_same, path_same-Decides}
use Rattle.tl_model.specs.declared.reply.Entry.{Entry}
use Rattle.tl_model.specs.Namespace.{PathOf, Node, Names, node_at, is_dir, is_below, is_child, children, last_part}
use Rattle.tl_model.specs.Replies.{entry_of, name_before, listing}
use Rattle.tl_model.specs.Tables.{put_by, sort_by}
use Rattle.tl_names.specs.declared.child.Child.{Child}
use Rattle.tl_names.specs.declared.child.Child.TheVariants.{Dir, File}
use Rattle.tl_names.specs.Tables.{Children, Dirs, children_at, child_at, entry_in, found_child, is_dir_child, node_found, place}
use Rattle.tl_names.specs.Standing.{HasEachOnce, StandsFor}
use Rattle.tl_names.proofs.Ascending.{Ascends, distinct_names, less_than_found, not_before, removed_ascends}
use Rattle.tl_names.proofs.Below.{below_rest, is_below-append, paths_apart}
use Rattle.tl_names.proofs.Entries.{by_bytes, removed_here, removed_apart}
use Rattle.tl_names.proofs.Places.{below_place}

-- names, each with whether it names a directory
abbrev Flags : Type 0
Flags = List (List ℕ × Bool)

abbrev entry : List ℕ × Bool → Entry
entry e = record { name = e.0; dir = e.1 }

-- ---- a sorted list is the one order of its entries

abbrev HasNamesOnce : Flags → Type 0
HasNamesOnce [] = Unit {0}
HasNamesOnce (e ∷ es) = (lookup (bytes_eq e.0) es ≡ None) × HasNamesOnce es

-- an entry that is put in where it was taken out
put_again : (n : List ℕ) (v : Bool) (es : Flags) → Ascends es → lookup (bytes_eq n) es ≡ Some v → put_by name_before (entry (n, v)) (map entry (remove_entry (bytes_eq n) es)) ≡ map entry es
put_again n v [] sorted found = absurd (none-some v found)
put_again n v (e ∷ es) sorted found = by (bytes_eq n e.0) refl found (put_again n v es (sorted_tail _ e.0 (keys_of es) sorted))
  where
    less : AllByRecursion (λ name. slice_cmp nat_cmp e.0 name ≡ Less) (keys_of es)
    less = sorted_head _ e.0 (keys_of es) sorted

    first : (rest : Flags) → AllByRecursion (λ name. slice_cmp nat_cmp n name ≡ Less) (keys_of rest) → put_by name_before (entry (n, v)) (map entry rest) ≡ entry (n, v) ∷ map entry rest
    first [] all = refl
    first (f ∷ fs) all = cond-false (is_lt (slice_cmp nat_cmp f.0 n)) (entry f ∷ put_by name_before (entry (n, v)) (map entry fs)) (entry (n, v) ∷ entry f ∷ map entry fs) (not_before n f.0 all.0)

    by : (b : Bool) → bytes_eq n e.0 ≡ b → cond b (Some e.1) (lookup (bytes_eq n) es) ≡ Some v →
        (lookup (bytes_eq n) es ≡ Some v → put_by name_before (entry (n, v)) (map entry (remove_entry (bytes_eq n) es)) ≡ map entry es) →
        put_by name_before (entry (n, v)) (map entry (cond b es (e ∷ remove_entry (bytes_eq n) es))) ≡ map entry (e ∷ es)
    by true same is more =
        let name : n ≡ e.0 = (bytes_eq-Decides n e.0).0 same in
        let flag : e.1 ≡ v = cc in
        first es (subst (λ m. AllByRecursion (λ name. slice_cmp nat_cmp m name ≡ Less) (keys_of es)) (sym name) less)
        ∙ ap (λ m. entry (m, v) ∷ map entry es) name ∙ ap (λ w. entry (e.0, w) ∷ map entry es) (sym flag)
    by false apart is more =
        cond-true (is_lt (slice_cmp nat_cmp e.0 n)) (entry e ∷ put_by name_before (entry (n, v)) (map entry (remove_entry (bytes_eq n) es)))
        (entry (n, v) ∷ entry e ∷ map entry (remove_entry (bytes_eq n) es)) (ap is_lt (less_than_found e.0 n v es less is))
        ∙ ap (λ rest. entry e ∷ rest) (more is)

nothing_found : (es : Flags) → ((n : List ℕ) → lookup (bytes_eq n) es ≡ None) → es ≡ []
nothing_found [] none = refl
nothing_found (e ∷ es) none = absurd (none-some e.1 (sym (none e.0) ∙ cond-true (bytes_eq e.0 e.0) (Some e.1) (lookup (bytes_eq e.0) es) ((bytes_eq-Decides e.0 e.0).1 refl)))

sorted_is : (xs es : Flags) → HasNamesOnce xs → Ascends es → ((n : List ℕ) → lookup (bytes_eq n) xs ≡ lookup (bytes_eq n) es) → sort_by name_before (map entry xs) ≡ map entry es
sorted_is [] es once sorted same = ap (map entry) (sym (nothing_found es (λ n. sym (same n))))
sorted_is (x ∷ xs) es once sorted same =
    ap (put_by name_before (entry x)) (sorted_is xs (remove_entry (bytes_eq x.0) es) once.1 (removed_ascends x.0 es sorted) (λ n. by n (bytes_eq n x.0) refl))
    ∙ put_again x.0 x.1 es sorted (sym (same x.0) ∙ cond-true (bytes_eq x.0 x.0) (Some x.1) (lookup (bytes_eq x.0) xs) ((bytes_eq-Decides x.0 x.0).1 refl))
  where
    by : (n : List ℕ) (b : Bool) → bytes_eq n x.0 ≡ b → lookup (bytes_eq n) xs ≡ lookup (bytes_eq n) (remove_entry (bytes_eq x.0) es)
    by n true at =
        let n_is : n ≡ x.0 = (bytes_eq-Decides n x.0).0 at in
        ap (λ m. lookup (bytes_eq m) xs) n_is ∙ once.0
        ∙ sym (ap (λ m. lookup (bytes_eq m) (remove_entry (bytes_eq x.0) es)) n_is ∙ removed_here (slice_cmp nat_cmp) bytes_eq by_bytes x.0 es (distinct_names es sorted))
    by n false apart =
        sym (cond-false (bytes_eq n x.0) (Some x.1) (lookup (bytes_eq n) xs) apart) ∙ same n
        ∙ sym (removed_apart (slice_cmp nat_cmp) bytes_eq by_bytes x.0 n es (λ n_is. true≢false (sym ((bytes_eq-Decides n x.0).1 n_is) ∙ apart)))

-- ---- the names one component below a path

last_append : (p : PathOf) (m : List ℕ) → last_part (p ++ m ∷ []) ≡ m
last_append [] m = refl
last_append (x ∷ []) m = refl
last_append (x ∷ y ∷ p) m = last_append (y ∷ p) m

-- a child is its parent with one component
child_is : (path : PathOf) (q : PathOf) → is_child path q ≡ true → path ++ last_part q ∷ [] ≡ q
child_is path q child = by (drop (length path) q) (below_rest q path parts.1)
  where
    parts : ((length q == length path + 1) ≡ true) × (is_below q path ≡ true)
    parts = and_parts (length q == length path + 1) (is_below q path) child

    long : length q ≡ length path + 1
    long = eqb-true (length q) (length path + 1) parts.0

    by : (rest : PathOf) → q ≡ path ++ rest → path ++ last_part q ∷ [] ≡ q
    by [] is =
        let short : length q ≡ length path = ap length (is ∙ append-nil path) in
        let one : length q ≡ length path + 1 = long in
        absurd (omega arith)
    by (m ∷ []) is = ap (λ n. path ++ n ∷ []) (ap last_part is ∙ last_append path m) ∙ sym is
    by (m ∷ n ∷ rest) is =
        let longer : length q ≡ length path + length (m ∷ n ∷ rest) = ap length is ∙ length-append path (m ∷ n ∷ rest) in
        let one : length q ≡ length path + 1 = long in
        absurd (omega arith)

is_child_of : (path : PathOf) (n : List ℕ) → is_child path (path ++ n ∷ []) ≡ true
is_child_of path n =
    and_from (length (path ++ n ∷ []) == length path + 1) (is_below (path ++ n ∷ []) path) (eq-eqb (length (path ++ n ∷ [])) (length path + 1) (length-append path (n ∷ []))) (is_below-append path (n ∷ []))

abbrev flag_of : PathOf × Node → List ℕ × Bool
flag_of e = (last_part e.0, is_dir e.1)

-- what a name in a directory is, by the list of names
name_found : (path : PathOf) (n : List ℕ) (names : Names) → lookup (bytes_eq n) (map flag_of (children names path)) ≡ option_map is_dir (node_at names (path ++ n ∷ []))
name_found path n [] = refl
name_found path n (e ∷ es) = by (is_child path e.0) refl (name_found path n es)
  where
    off : bytes_eq n (last_part e.0) ≡ false → is_child path e.0 ≡ true → path_same (path ++ n ∷ []) e.0 ≡ false
    off apart child = paths_apart (path ++ n ∷ []) e.0 (λ same. true≢false (sym ((bytes_eq-Decides n (last_part e.0)).1 (sym (last_append path n) ∙ ap last_part same)) ∙ apart))

    in_child : (b : Bool) → bytes_eq n (last_part e.0) ≡ b → is_child path e.0 ≡ true → lookup (bytes_eq n) (map flag_of (children es path)) ≡ option_map is_dir (node_at es (path ++ n ∷ [])) →
        cond b (Some (is_dir e.1)) (lookup (bytes_eq n) (map flag_of (children es path))) ≡ option_map is_dir (node_at (e ∷ es) (path ++ n ∷ []))
    in_child true same child more =
        sym (ap (option_map is_dir) (cond-true (path_same (path ++ n ∷ []) e.0) (Some e.1) (node_at es (path ++ n ∷ []))
        ((path_same-Decides (path ++ n ∷ []) e.0).1 (ap (λ m. path ++ m ∷ []) ((bytes_eq-Decides n (last_part e.0)).0 same) ∙ child_is path e.0 child))))
    in_child false apart child more =
        more ∙ sym (ap (option_map is_dir) (cond-false (path_same (path ++ n ∷ []) e.0) (Some e.1) (node_at es (path ++ n ∷ [])) (off apart child)))

    by : (b : Bool) → is_child path e.0 ≡ b → lookup (bytes_eq n) (map flag_of (children es path)) ≡ option_map is_dir (node_at es (path ++ n ∷ [])) →
        lookup (bytes_eq n) (map flag_of (cond b (e ∷ children es path) (children es path))) ≡ option_map is_dir (node_at (e ∷ es) (path ++ n ∷ []))
    by true child more = in_child (bytes_eq n (last_part e.0)) refl child more
    by false other more =
        more ∙ sym (ap (option_map is_dir) (cond-false (path_same (path ++ n ∷ []) e.0) (Some e.1) (node_at es (path ++ n ∷ []))
        (paths_apart (path ++ n ∷ []) e.0 (λ same. true≢false (sym (is_child_of path n) ∙ ap (is_child path) same ∙ other)))))

children_once : (path : PathOf) (names : Names) → HasEachOnce names → HasNamesOnce (map flag_of (children names path))
children_once path [] once = tt
children_once path (e ∷ es) once = by (is_child path e.0) refl (children_once path es once.1)
  where
    by : (b : Bool) → is_child path e.0 ≡ b → HasNamesOnce (map flag_of (children es path)) → HasNamesOnce (map flag_of (cond b (e ∷ children es path) (children es path)))
    by true child more = (name_found path (last_part e.0) es ∙ ap (λ q. option_map is_dir (node_at es q)) (child_is path e.0 child) ∙ ap (option_map is_dir) once.0, more)
    by false other more = more

-- ---- a directory of the tables

abbrev flag_in : List ℕ × Child → List ℕ × Bool
flag_in c = (c.0, is_dir_child c.1)

flag_found : (n : List ℕ) (cs : Children) → lookup (bytes_eq n) (map flag_in cs) ≡ option_map is_dir_child (lookup (bytes_eq n) cs)
flag_found n [] = refl
flag_found n (c ∷ cs) = by (bytes_eq n c.0) (flag_found n cs)
  where
    by : (b : Bool) → lookup (bytes_eq n) (map flag_in cs) ≡ option_map is_dir_child (lookup (bytes_eq n) cs) →
        cond b (Some (is_dir_child c.1)) (lookup (bytes_eq n) (map flag_in cs)) ≡ option_map is_dir_child (cond b (Some c.1) (lookup (bytes_eq n) cs))
    by true more = refl
    by false more = more

same_keys : (cs : Children) → keys_of (map flag_in cs) ≡ keys_of cs
same_keys [] = refl
same_keys (c ∷ cs) = ap (λ rest. c.0 ∷ rest) (same_keys cs)

same_entries : (cs : Children) → map entry (map flag_in cs) ≡ map entry_in cs
same_entries [] = refl
same_entries (c ∷ cs) = ap (λ rest. entry_in c ∷ rest) (same_entries cs)

entries_of : (names : Names) → map entry (map flag_of names) ≡ map entry_of names
entries_of [] = refl
entries_of (e ∷ es) = ap (λ rest. entry_of e ∷ rest) (entries_of es)

flag_same : (o : Option Child) → option_map is_dir (node_found (found_child o)) ≡ option_map is_dir_child o
flag_same None = refl
flag_same (Some (Dir d)) = refl
flag_same (Some (File f b)) = refl

pub listing_same : (dirs : Dirs) (names : Names) → StandsFor dirs names → (path : PathOf) (d : ℕ) → place dirs path ≡ Ok (Dir d) →
    Ascends (children_at dirs d) → listing names path ≡ map entry_in (children_at dirs d)
listing_same dirs names stands path d at sorted =
    ap (sort_by name_before) (sym (entries_of (children names path)))
    ∙ sorted_is (map flag_of (children names path)) (map flag_in (children_at dirs d)) (children_once path names stands.once)
    (subst (IsStrictlySortedBy (slice_cmp nat_cmp)) (sym (same_keys (children_at dirs d))) sorted)
    (λ n. name_found path n names ∙ ap (option_map is_dir) (sym (stands.found (path ++ n ∷ [])) ∙ ap node_found (below_place dirs path n d at)) ∙ flag_same (child_at dirs d n) ∙ sym (flag_found n (children_at dirs d)))
    ∙ same_entries (children_at dirs d)

length-put : (before : Entry → Entry → Bool) (x : Entry) (xs : List Entry) → length (put_by before x xs) ≡ suc (length xs)
length-put before x [] = refl
length-put before x (y ∷ ys) = by (before y x) (length-put before x ys)
  where
    by : (b : Bool) → length (put_by before x ys) ≡ suc (length ys) → length (cond b (y ∷ put_by before x ys) (x ∷ y ∷ ys)) ≡ suc (suc (length ys))
    by true more = ap suc more
    by false more = refl

length-sort : (before : Entry → Entry → Bool) (xs : List Entry) → length (sort_by before xs) ≡ length xs
length-sort before [] = refl
length-sort before (x ∷ xs) = length-put before x (sort_by before xs) ∙ ap suc (length-sort before xs)

length-mapped : {X Y : Type 0} (f : X → Y) (xs : List X) → length (map f xs) ≡ length xs
length-mapped f [] = refl
length-mapped f (x ∷ xs) = ap suc (length-mapped f xs)

pub count_same : (dirs : Dirs) (names : Names) → StandsFor dirs names → (path : PathOf) (d : ℕ) → place dirs path ≡ Ok (Dir d) →
    Ascends (children_at dirs d) → length (children names path) ≡ length (children_at dirs d)
count_same dirs names stands path d at sorted =
    sym (length-mapped entry_of (children names path)) ∙ sym (length-sort name_before (map entry_of (children names path)))
    ∙ ap length (listing_same dirs names stands path d at sorted) ∙ length-mapped entry_in (children_at dirs d)
