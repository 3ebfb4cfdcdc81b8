-- What a move takes along, and whether it has a path.
use Rattle.std.proofs.Common.{◌≡◌, ℕ, zero, suc, ◌+◌, ◌-◌, ◌<◌, ◌≤◌, Bool, true, false, cond, List, [], ◌∷◌, ◌++◌, length, take, drop, get_or, Option, Some, None, is_some, Result, Ok, Err, refl, sym, ap, ◌∙◌, subst, inl, inr, ◌⊎◌, arith, length-append, append-nil, take-append-drop}
use Rattle.std.specs.Prelude.{◌&&◌, ◌||◌, not, nat_lt, nat_le, slice_get, IsSome}
use Rattle.std.specs.Global.{Vec}
use Rattle.std.specs.Cmp.Lexicographic.{slice_cmp}
use Rattle.std.specs.List.{flat_map, list_all, list_any}
use Rattle.std.specs.Map.{lookup, keys_of}
use Rattle.std.specs.Ordering.{nat_cmp, is_eq}
use Rattle.std.specs.declared.cmp.Ordering.TheVariants.{Less}
use Rattle.std.specs.Str.{bytes_eq}
use Rattle.std.proofs.Math.ListN.{get_or-append}
use Rattle.std.proofs.lemmas.Bool.{true≢false, false≢true, and_parts, and_from, and_left, and_right, ltb-true, ltb-false, lt-ltb, leb-true, le-leb, lt-leb, le-ltb, cases_Bool, cond-true, or_from, or_left, or_right}
use Rattle.std.proofs.lemmas.List.{take_more}
use Rattle.std.proofs.lemmas.List.Concat.{flat_map-append}
use Rattle.std.proofs.lemmas.Map.Keys.{sorted_head, sorted_tail}
use Rattle.std.proofs.lemmas.Map.Text.{is_eq-slice_cmp}
use Rattle.std.proofs.lemmas.Option.{none-some, get_or_from_slice_get}
use Rattle.std.proofs.lemmas.Slice.Eq.{bytes_eq-Decides}
use Rattle.tl_types.specs.Path.{IsPath, is_component, slash_before, spelled}
use Rattle.tl_types.specs.Same.{path_same, path_same-Decides}
use Rattle.tl_model.specs.declared.reply.Reply.{Reply}
use Rattle.tl_model.specs.Namespace.{PathOf, Names, node_at, is_below, last_part, moved, parent}
use Rattle.tl_model.specs.Replies.{and_then, is_too_deep, within_limits}
use Rattle.tl_names.specs.declared.child.Child.{Child}
use Rattle.tl_names.specs.declared.child.Child.TheVariants.{Dir, File}
use Rattle.tl_names.specs.Moves.{all_below, bytes_of, child_fits}
use Rattle.tl_names.specs.Standing.{StandsFor}
use Rattle.tl_names.specs.Tables.{Children, Dirs, children_at, child_at, children_of, found_child, walk_from, place, node_found, IsTree}
use Rattle.tl_names.proofs.Ascending.{Ascends, less_than_found}
use Rattle.tl_names.proofs.Below.{below_rest, below_from, is_below-append}
use Rattle.tl_names.proofs.Places.{walk_append}
use Rattle.tl_names.proofs.Replied.{parts_again}

-- ---- one path below another, part by part

pub below_taken : (path front : PathOf) (i : ℕ) → i ≡ length front → take i path ≡ take i front → true ≡ is_below path front
below_taken path front i long same = sym (below_from path front (drop i path) (sym (take-append-drop i path) ∙ ap (λ f. f ++ drop i path) (same ∙ ap (λ k. take k front) long ∙ take_all front)))
  where
    take_all : (f : PathOf) → take (length f) f ≡ f
    take_all [] = refl
    take_all (part ∷ rest) = ap (λ r. part ∷ r) (take_all rest)

pub taken_more : (path front : PathOf) (i : ℕ) (a b : List ℕ) → i < length path → i < length front → slice_get path i ≡ Some a → slice_get front i ≡ Some b → a ≡ b →
    take i path ≡ take i front → take (i + 1) path ≡ take (i + 1) front
taken_more path front i a b within also at at_front same so_far =
    take_more path i [] within
    ∙ ap (λ p. take i path ++ p ∷ []) (get_or_from_slice_get path i a [] at ∙ same ∙ sym (get_or_from_slice_get front i b [] at_front))
    ∙ ap (λ f. f ++ get_or front i [] ∷ []) so_far
    ∙ sym (take_more front i [] also)

pub parts_differ : (path front : PathOf) (i : ℕ) (a b : List ℕ) → i < length front → slice_get path i ≡ Some a → slice_get front i ≡ Some b → (a ≡ b → ⊥) → false ≡ is_below path front
parts_differ path front i a b within at at_front apart = by (cases_Bool (is_below path front))
  where
    by : (is_below path front ≡ true) ⊎ (is_below path front ≡ false) → false ≡ is_below path front
    by (inl below) =
        absurd (apart (sym (get_or_from_slice_get path i a [] at)
        ∙ ap (λ p. get_or p i []) (below_rest path front below)
        ∙ get_or-append front (drop (length front) path) [] i within
        ∙ get_or_from_slice_get front i b [] at_front))
    by (inr apart_paths) = sym apart_paths

pub too_short : (path front : PathOf) → length path < length front → false ≡ is_below path front
too_short path front short = by (cases_Bool (is_below path front))
  where
    by : (is_below path front ≡ true) ⊎ (is_below path front ≡ false) → false ≡ is_below path front
    by (inl below) = let long : length path ≡ length front + length (drop (length front) path) = ap length (below_rest path front below) ∙ length-append front (drop (length front) path) in absurd (omega arith)
    by (inr apart) = sym apart

-- ---- bytes

pub bytes_append : (p q : PathOf) → bytes_of (p ++ q) ≡ bytes_of p + bytes_of q
bytes_append p q = ap length (flat_map-append slash_before p q) ∙ length-append (flat_map slash_before p) (flat_map slash_before q)

bytes_one : (n : List ℕ) → bytes_of (n ∷ []) ≡ 1 + length n
bytes_one n = let long : length (slash_before n ++ []) ≡ length (slash_before n) = ap length (append-nil (slash_before n)) in omega (arith, long)

pub bytes_more : (path : PathOf) (i : ℕ) (part : List ℕ) → i < length path → slice_get path i ≡ Some part → bytes_of (take (i + 1) path) ≡ bytes_of (take i path) + (1 + length part)
bytes_more path i part within at =
    ap bytes_of (take_more path i [] within ∙ ap (λ p. take i path ++ p ∷ []) (get_or_from_slice_get path i part [] at))
    ∙ bytes_append (take i path) (part ∷ []) ∙ ap (λ n. bytes_of (take i path) + n) (bytes_one part)

spelled_is : (path : PathOf) → 0 < length path → length (spelled path) ≡ bytes_of path
spelled_is [] some = absurd (omega arith)
spelled_is (part ∷ rest) some = refl

pub front_bytes : (path : PathOf) (i : ℕ) → bytes_of (take i path) ≤ bytes_of path
front_bytes path i =
    let both : bytes_of path ≡ bytes_of (take i path) + bytes_of (drop i path) = ap bytes_of (sym (take-append-drop i path)) ∙ bytes_append (take i path) (drop i path) in
    omega arith

-- a path's limits
pub path_limits : (path : PathOf) → IsPath path → (length path ≤ 16) × (length (spelled path) ≤ 1024)
path_limits path is =
    let outer : ((nat_le (length path) 16 && list_all is_component path) ≡ true) × (nat_le (length (spelled path)) 1024 ≡ true)
    = and_parts (nat_le (length path) 16 && list_all is_component path) (nat_le (length (spelled path)) 1024) is in
    let inner : (nat_le (length path) 16 ≡ true) × (list_all is_component path ≡ true) = and_parts (nat_le (length path) 16) (list_all is_component path) outer.0 in
    (leb-true (length path) 16 inner.0, leb-true (length (spelled path)) 1024 outer.1)

pub bytes_limit : (path : PathOf) → IsPath path → bytes_of path ≤ 1024
bytes_limit [] is = omega arith
bytes_limit (part ∷ rest) is = (path_limits (part ∷ rest) is).1

-- ---- what fits

-- a directory's name, where there is room for one
pub fits_dir : (dirs : Dirs) (parts bytes : ℕ) (n : List ℕ) (d : ℕ) → (parts ≡ 0 → ⊥) → length n < bytes →
    child_fits dirs parts bytes (n, Dir d) ≡ list_all (child_fits dirs (parts - 1) (bytes - 1 - length n)) (children_at dirs d)
fits_dir dirs zero bytes n d some room = absurd (some refl)
fits_dir dirs (suc parts) bytes n d some room =
    ap (λ b. b && list_all (child_fits dirs parts (bytes - 1 - length n)) (children_at dirs d)) (lt-ltb (length n) bytes room)
    ∙ ap (λ p. list_all (child_fits dirs p (bytes - 1 - length n)) (children_at dirs d)) less
  where
    less : parts ≡ suc parts - 1
    less = omega arith

pub fits_file : (dirs : Dirs) (parts bytes : ℕ) (n : List ℕ) (x : Child) → (parts ≡ 0 → ⊥) → length n < bytes → ((d : ℕ) → x ≡ Dir d → ⊥) → true ≡ child_fits dirs parts bytes (n, x)
fits_file dirs zero bytes n x some room file_is = absurd (some refl)
fits_file dirs (suc parts) bytes n (Dir d) some room file_is = absurd (file_is d refl)
fits_file dirs (suc parts) bytes n (File f b) some room file_is = sym (ap (λ b. b && true) (lt-ltb (length n) bytes room))

pub fits_none : (dirs : Dirs) (parts bytes : ℕ) (n : List ℕ) (x : Child) → bytes ≤ length n → false ≡ child_fits dirs parts bytes (n, x)
fits_none dirs zero bytes n x full = refl
fits_none dirs (suc parts) bytes n x full = sym (and_left (nat_lt (length n) bytes) (all_below dirs (child_fits dirs parts (bytes - 1 - length n)) x) (le-ltb (length n) bytes full))

pub fits_no_part : (dirs : Dirs) (parts bytes : ℕ) (n : List ℕ) (x : Child) → parts ≡ 0 → false ≡ child_fits dirs parts bytes (n, x)
fits_no_part dirs zero bytes n x none = refl
fits_no_part dirs (suc parts) bytes n x none = let never : suc parts ≡ 0 = none in absurd (omega arith)

-- ---- all that is below a child

-- the test of a name that is found
all_found : (test : List ℕ × Child → Bool) (n : List ℕ) (x : Child) (cs : Children) → list_all test cs ≡ true → lookup (bytes_eq n) cs ≡ Some x → test (n, x) ≡ true
all_found test n x [] all found = absurd (none-some x found)
all_found test n x (c ∷ cs) all found = by (bytes_eq n c.0) refl found (and_parts (test c) (list_all test cs) all) (λ rest. all_found test n x cs rest)
  where
    by : (b : Bool) → bytes_eq n c.0 ≡ b → cond b (Some c.1) (lookup (bytes_eq n) cs) ≡ Some x → (test c ≡ true) × (list_all test cs ≡ true) →
        (list_all test cs ≡ true → lookup (bytes_eq n) cs ≡ Some x → test (n, x) ≡ true) → test (n, x) ≡ true
    by true same is parts more =
        let value : c.1 ≡ x = cc in
        ap (λ m. test (m, x)) ((bytes_eq-Decides n c.0).0 same) ∙ ap (λ y. test (c.0, y)) (sym value) ∙ parts.0
    by false apart is parts more = more parts.1 is

-- a name that fails a test, where not all pass
pub record Fails (test : List ℕ × Child → Bool) (cs : Children) : Type 0 where
  pub name : List ℕ
  pub child : Child
  pub found : lookup (bytes_eq name) cs ≡ Some child
  pub fails : test (name, child) ≡ false

-- what is found among the later names is not the first
later_found : (c : List ℕ × Child) (cs : Children) (n : List ℕ) (x : Child) → Ascends (c ∷ cs) → lookup (bytes_eq n) cs ≡ Some x → lookup (bytes_eq n) (c ∷ cs) ≡ Some x
later_found c cs n x sorted found = by (bytes_eq n c.0) refl
  where
    by : (b : Bool) → bytes_eq n c.0 ≡ b → cond b (Some c.1) (lookup (bytes_eq n) cs) ≡ Some x
    by true same =
        let less : slice_cmp nat_cmp c.0 n ≡ Less = less_than_found c.0 n x cs (sorted_head _ c.0 (keys_of cs) sorted) found in
        absurd (true≢false (sym ((bytes_eq-Decides c.0 n).1 (sym ((bytes_eq-Decides n c.0).0 same))) ∙ sym (is_eq-slice_cmp c.0 n) ∙ ap is_eq less))
    by false apart = found

first_failing : (test : List ℕ × Child → Bool) (cs : Children) → Ascends cs → list_all test cs ≡ false → Fails test cs
first_failing test [] sorted fails = absurd (true≢false fails)
first_failing test (c ∷ cs) sorted fails = by (test c) refl (λ rest. first_failing test cs (sorted_tail _ c.0 (keys_of cs) sorted) rest)
  where
    by : (b : Bool) → test c ≡ b → (list_all test cs ≡ false → Fails test cs) → Fails test (c ∷ cs)
    by false is more = record {
      name = c.0;
      child = c.1;
      found = cond-true (bytes_eq c.0 c.0) (Some c.1) (lookup (bytes_eq c.0) cs) ((bytes_eq-Decides c.0 c.0).1 refl);
      fails = is;
    }
    by true is more =
        let rest : Fails test cs = more (sym (ap (λ b. b && list_all test cs) is) ∙ fails) in
        record { name = rest.name; child = rest.child; found = later_found c cs rest.name rest.child sorted rest.found; fails = rest.fails }

-- ---- what fits, by the paths below

next_found : (dirs : Dirs) (d : ℕ) (m : List ℕ) (rest : PathOf) (y : Child) → walk_from dirs (m ∷ rest) (Dir d) ≡ Ok y → (z : Child) × (child_at dirs d m ≡ Some z) × (walk_from dirs rest z ≡ Ok y)
next_found dirs d m rest y led = by (child_at dirs d m) refl led
  where
    by : (o : Option Child) → child_at dirs d m ≡ o → and_then (found_child o) (walk_from dirs rest) ≡ Ok y → (z : Child) × (child_at dirs d m ≡ Some z) × (walk_from dirs rest z ≡ Ok y)
    by None at is = absurd cc
    by (Some z) at is = (z, at, is)

pub fits_all : (dirs : Dirs) (parts bytes : ℕ) (n : List ℕ) (x y : Child) (q : PathOf) → child_fits dirs parts bytes (n, x) ≡ true → walk_from dirs q x ≡ Ok y →
    (length q + 1 ≤ parts) × (bytes_of q + (1 + length n) ≤ bytes)
fits_all dirs zero bytes n x y q fits led = absurd (false≢true fits)
fits_all dirs (suc parts) bytes n x y [] fits led =
    let room : length n < bytes = ltb-true (length n) bytes (and_parts (nat_lt (length n) bytes) (all_below dirs (child_fits dirs parts (bytes - 1 - length n)) x) fits).0 in
    (omega arith, omega arith)
fits_all dirs (suc parts) bytes n (File f b) y (m ∷ rest) fits led = absurd cc
fits_all dirs (suc parts) bytes n (Dir d) y (m ∷ rest) fits led =
    let halves : (nat_lt (length n) bytes ≡ true) × (list_all (child_fits dirs parts (bytes - 1 - length n)) (children_at dirs d) ≡ true)
    = and_parts (nat_lt (length n) bytes) (list_all (child_fits dirs parts (bytes - 1 - length n)) (children_at dirs d)) fits in
    let room : length n < bytes = ltb-true (length n) bytes halves.0 in
    let next : (z : Child) × (child_at dirs d m ≡ Some z) × (walk_from dirs rest z ≡ Ok y) = next_found dirs d m rest y led in
    let more : (length rest + 1 ≤ parts) × (bytes_of rest + (1 + length m) ≤ bytes - 1 - length n)
    = fits_all dirs parts (bytes - 1 - length n) m next.0 y rest (all_found (child_fits dirs parts (bytes - 1 - length n)) m next.0 (children_at dirs d) halves.1 next.1) next.2 in
    let parts_more : length rest + 1 ≤ parts = more.0 in
    let bytes_left : bytes_of rest + (1 + length m) ≤ bytes - 1 - length n = more.1 in
    let both : bytes_of (m ∷ rest) ≡ bytes_of (m ∷ []) + bytes_of rest = bytes_append (m ∷ []) rest in
    let one : bytes_of (m ∷ []) ≡ 1 + length m = bytes_one m in
    (omega arith, omega arith)

-- a path below that is too long
pub record IsTooLong (dirs : Dirs) (parts bytes : ℕ) (n : List ℕ) (x : Child) : Type 0 where
  pub path : PathOf
  pub end : Child
  pub led : walk_from dirs path x ≡ Ok end
  pub long : (parts < length path + 1) ⊎ (bytes < bytes_of path + (1 + length n))

pub fits_not : (dirs : Dirs) → IsTree dirs → (parts bytes : ℕ) (n : List ℕ) (x : Child) → child_fits dirs parts bytes (n, x) ≡ false → IsTooLong dirs parts bytes n x
fits_not dirs tree zero bytes n x fails = record { path = []; end = x; led = refl; long = inl (omega arith) }
fits_not dirs tree (suc parts) bytes n x fails = by (nat_lt (length n) bytes) refl x fails (λ m z rest. fits_not dirs tree parts (bytes - 1 - length n) m z rest)
  where
    full : (y : Child) → bytes ≤ length n → IsTooLong dirs (suc parts) bytes n y
    full y room = record { path = []; end = y; led = refl; long = inr (omega arith) }

    by : (b : Bool) → nat_lt (length n) bytes ≡ b → (y : Child) → (b && all_below dirs (child_fits dirs parts (bytes - 1 - length n)) y) ≡ false →
        ((m : List ℕ) (z : Child) → child_fits dirs parts (bytes - 1 - length n) (m, z) ≡ false → IsTooLong dirs parts (bytes - 1 - length n) m z) → IsTooLong dirs (suc parts) bytes n y
    by false is y none more = full y (ltb-false (length n) bytes is)
    by true is (File f b) none more = absurd (true≢false none)
    by true is (Dir d) none more =
        let room : length n < bytes = ltb-true (length n) bytes is in
        let first : Fails (child_fits dirs parts (bytes - 1 - length n)) (children_at dirs d) = first_failing (child_fits dirs parts (bytes - 1 - length n)) (children_at dirs d) (tree.ascending d) none in
        let deeper : IsTooLong dirs parts (bytes - 1 - length n) first.name first.child = more first.name first.child first.fails in
        let both : bytes_of (first.name ∷ deeper.path) ≡ bytes_of (first.name ∷ []) + bytes_of deeper.path = bytes_append (first.name ∷ []) deeper.path in
        let one : bytes_of (first.name ∷ []) ≡ 1 + length first.name = bytes_one first.name in
        record {
          path = first.name ∷ deeper.path;
          end = deeper.end;
          led = ap (λ o. and_then (found_child o) (walk_from dirs deeper.path)) first.found ∙ deeper.led;
          long = longer first.name deeper.path room both one deeper.long;
        }
      where
        longer : (m : List ℕ) (rest : PathOf) → length n < bytes → bytes_of (m ∷ rest) ≡ bytes_of (m ∷ []) + bytes_of rest → bytes_of (m ∷ []) ≡ 1 + length m →
            (parts < length rest + 1) ⊎ (bytes - 1 - length n < bytes_of rest + (1 + length m)) → (suc parts < length (m ∷ rest) + 1) ⊎ (bytes < bytes_of (m ∷ rest) + (1 + length n))
        longer m rest room both one (inl more_parts) = inl (omega arith)
        longer m rest room both one (inr more_bytes) = inr (omega arith)

-- ---- the names that a move takes along

-- a test of the paths that a list has
any_none : (test : PathOf → Bool) (es : Names) → ((q : PathOf) → IsSome (node_at es q) → test q ≡ false) → list_any (λ e. test e.0) es ≡ false
any_none test [] none = refl
any_none test (e ∷ es) none =
    or_from (test e.0) (list_any (λ f. test f.0) es)
    (none e.0 (ap is_some (cond-true (path_same e.0 e.0) (Some e.1) (node_at es e.0) ((path_same-Decides e.0 e.0).1 refl))))
    (any_none test es (λ q some. none q (by q (path_same q e.0) some)))
  where
    by : (q : PathOf) (b : Bool) → IsSome (node_at es q) → IsSome (cond b (Some e.1) (node_at es q))
    by q true some = refl
    by q false some = some

any_some : (test : PathOf → Bool) (es : Names) (q : PathOf) → IsSome (node_at es q) → test q ≡ true → list_any (λ e. test e.0) es ≡ true
any_some test [] q some passes = absurd (false≢true some)
any_some test (e ∷ es) q some passes = by (path_same q e.0) refl some (λ rest. any_some test es q rest passes)
  where
    by : (b : Bool) → path_same q e.0 ≡ b → IsSome (cond b (Some e.1) (node_at es q)) → (IsSome (node_at es q) → list_any (λ f. test f.0) es ≡ true) → (test e.0 || list_any (λ f. test f.0) es) ≡ true
    by true same is more = or_left (test e.0) (list_any (λ f. test f.0) es) (ap test (sym ((path_same-Decides q e.0).0 same)) ∙ passes)
    by false apart is more = or_right (test e.0) (list_any (λ f. test f.0) es) (more is)

abbrev pub deep : PathOf → PathOf → PathOf → Bool
deep from to q = is_below q from && not (within_limits (moved from to q))

drop_front : (a b : PathOf) → drop (length a) (a ++ b) ≡ b
drop_front [] b = refl
drop_front (x ∷ a) b = drop_front a b

pub moved_below : (from to rest : PathOf) → moved from to (from ++ rest) ≡ to ++ rest
moved_below from to rest =
    cond-true (is_below (from ++ rest) from) (to ++ drop (length from) (from ++ rest)) (from ++ rest) (is_below-append from rest) ∙ ap (λ r. to ++ r) (drop_front from rest)

-- a moved path's limits
record Limits (to q : PathOf) : Type 0 where
  pub long : length (to ++ q) ≡ length to + length q
  pub bytes : length (spelled (to ++ q)) ≡ bytes_of (parent to) + (1 + length (last_part to)) + bytes_of q

limits_of : (to q : PathOf) → 0 < length to → Limits to q
limits_of [] q some = absurd (omega arith)
limits_of (part ∷ rest) q some = record {
  long = length-append (part ∷ rest) q;
  bytes = spelled_is ((part ∷ rest) ++ q) (let longer : length ((part ∷ rest) ++ q) ≡ length (part ∷ rest) + length q = length-append (part ∷ rest) q in omega arith)
      ∙ bytes_append (part ∷ rest) q
      ∙ ap (λ n. n + bytes_of q) (ap bytes_of (sym (parts_again part rest)) ∙ bytes_append (parent (part ∷ rest)) (last_part (part ∷ rest) ∷ []) ∙ ap (λ n. bytes_of (parent (part ∷ rest)) + n) (bytes_one (last_part (part ∷ rest))));
}

within : (to q : PathOf) (b : ℕ) → 0 < length to → length to ≤ 16 → b ≡ bytes_of (parent to) → b ≤ 1024 → length q + 1 ≤ 17 - length to → bytes_of q + (1 + length (last_part to)) ≤ 1024 - b → within_limits (to ++ q) ≡ true
within to q b some short is low parts bytes =
    let limits : Limits to q = limits_of to q some in
    let long : length (to ++ q) ≡ length to + length q = limits.long in
    let spelled_long : length (spelled (to ++ q)) ≡ bytes_of (parent to) + (1 + length (last_part to)) + bytes_of q = limits.bytes in
    and_from (nat_le (length (to ++ q)) 16) (nat_le (length (spelled (to ++ q))) 1024) (le-leb (length (to ++ q)) 16 (omega arith)) (le-leb (length (spelled (to ++ q))) 1024 (omega arith))

beyond : (to q : PathOf) (b : ℕ) → 0 < length to → length to ≤ 16 → b ≡ bytes_of (parent to) → b ≤ 1024 → (17 - length to < length q + 1) ⊎ (1024 - b < bytes_of q + (1 + length (last_part to))) → within_limits (to ++ q) ≡ false
beyond to q b some short is low (inl parts) =
    let long : length (to ++ q) ≡ length to + length q = (limits_of to q some).long in
    and_left (nat_le (length (to ++ q)) 16) (nat_le (length (spelled (to ++ q))) 1024) (lt-leb (length (to ++ q)) 16 (omega arith))
beyond to q b some short is low (inr bytes) =
    let spelled_long : length (spelled (to ++ q)) ≡ bytes_of (parent to) + (1 + length (last_part to)) + bytes_of q = (limits_of to q some).bytes in
    and_right (nat_le (length (to ++ q)) 16) (nat_le (length (spelled (to ++ q))) 1024) (lt-leb (length (spelled (to ++ q))) 1024 (omega arith))

-- what is found below a path
found_below : (dirs : Dirs) (names : Names) → StandsFor dirs names → (from q : PathOf) (x : Child) → place dirs from ≡ Ok x → node_at names (from ++ q) ≡ node_found (walk_from dirs q x)
found_below dirs names stands from q x at = sym (stands.found (from ++ q)) ∙ ap node_found (walk_append dirs from q (Dir 0) ∙ ap (λ r. and_then r (walk_from dirs q)) at)

end_of : (r : Result Child Reply) → IsSome (node_found r) → (y : Child) × (r ≡ Ok y)
end_of (Ok y) some = (y, refl)
end_of (Err e) some = absurd (false≢true some)

pub not_deep : (dirs : Dirs) (names : Names) → StandsFor dirs names → (from to : PathOf) (x : Child) (b : ℕ) → place dirs from ≡ Ok x → 0 < length to → length to ≤ 16 → b ≡ bytes_of (parent to) → b ≤ 1024 →
    child_fits dirs (17 - length to) (1024 - b) (last_part to, x) ≡ true → is_too_deep names from to ≡ false
not_deep dirs names stands from to x b at some short is low fits = any_none (deep from to) names (λ q found. by q found (is_below q from) refl)
  where
    below : (q rest : PathOf) → IsSome (node_at names q) → q ≡ from ++ rest → within_limits (moved from to q) ≡ true
    below q rest found q_is =
        let led : (y : Child) × (walk_from dirs rest x ≡ Ok y)
        = end_of (walk_from dirs rest x) (subst IsSome (ap (node_at names) q_is ∙ found_below dirs names stands from rest x at) found) in
        let room : (length rest + 1 ≤ 17 - length to) × (bytes_of rest + (1 + length (last_part to)) ≤ 1024 - b) = fits_all dirs (17 - length to) (1024 - b) (last_part to) x led.0 rest fits led.1 in
        ap (λ p. within_limits (moved from to p)) q_is ∙ ap within_limits (moved_below from to rest) ∙ within to rest b some short is low room.0 room.1

    by : (q : PathOf) → IsSome (node_at names q) → (t : Bool) → is_below q from ≡ t → deep from to q ≡ false
    by q found false apart = and_left (is_below q from) (not (within_limits (moved from to q))) apart
    by q found true is_there = and_right (is_below q from) (not (within_limits (moved from to q))) (ap not (below q (drop (length from) q) found (below_rest q from is_there)))

pub is_deep : (dirs : Dirs) (names : Names) → IsTree dirs → StandsFor dirs names → (from to : PathOf) (x : Child) (b : ℕ) → place dirs from ≡ Ok x → 0 < length to → length to ≤ 16 → b ≡ bytes_of (parent to) → b ≤ 1024 →
    child_fits dirs (17 - length to) (1024 - b) (last_part to, x) ≡ false → is_too_deep names from to ≡ true
is_deep dirs names tree stands from to x b at some short is low fails =
    let long : IsTooLong dirs (17 - length to) (1024 - b) (last_part to) x = fits_not dirs tree (17 - length to) (1024 - b) (last_part to) x fails in
    any_some (deep from to) names (from ++ long.path)
    (ap is_some (found_below dirs names stands from long.path x at ∙ ap node_found long.led))
    (and_from (is_below (from ++ long.path) from) (not (within_limits (moved from to (from ++ long.path)))) (is_below-append from long.path)
    (ap not (ap within_limits (moved_below from to long.path) ∙ beyond to long.path b some short is low long.long)))

-- ---- what the code meets

pub parts_not : (a b : List ℕ) → true ≡ not (bytes_eq a b) → a ≡ b → ⊥
parts_not a b differ same = true≢false (differ ∙ ap not ((bytes_eq-Decides a b).1 same))

pub parts_are : (a b : List ℕ) → false ≡ not (bytes_eq a b) → a ≡ b
parts_are a b differ = (bytes_eq-Decides a b).0 (by (bytes_eq a b) differ)
  where
    by : (t : Bool) → false ≡ not t → t ≡ true
    by true is = refl
    by false is = absurd (false≢true is)

-- one name further
pub next_fails : (test : List ℕ × Child → Bool) (e : Vec ℕ × Child) (left rest : List (Vec ℕ × Child)) (all : Bool) → left ≡ e ∷ rest → list_all test (children_of left) ≡ all → test (e.0.items, e.1) ≡ false → false ≡ all
next_fails test e left rest all is so_far fails = sym (ap (λ l. list_all test (children_of l)) is ∙ and_left (test (e.0.items, e.1)) (list_all test (children_of rest)) fails) ∙ so_far

pub next_passes : (test : List ℕ × Child → Bool) (e : Vec ℕ × Child) (left rest : List (Vec ℕ × Child)) (all : Bool) → left ≡ e ∷ rest → list_all test (children_of left) ≡ all → test (e.0.items, e.1) ≡ true → list_all test (children_of rest) ≡ all
next_passes test e left rest all is so_far passes = sym (ap (λ l. list_all test (children_of l)) is ∙ ap (λ b. b && list_all test (children_of rest)) passes) ∙ so_far

pub none_left : (test : List ℕ × Child → Bool) (left : List (Vec ℕ × Child)) (all : Bool) → left ≡ [] → list_all test (children_of left) ≡ all → true ≡ all
none_left test left all is so_far = sym (ap (λ l. list_all test (children_of l)) is) ∙ so_far
