-- A name is taken away, or a pin is set or cleared.
use Rattle.std.proofs.Common.{◌≡◌, ℕ, ◌+◌, ◌<◌, ◌≤◌, suc, Bool, true, false, cond, List, [], ◌∷◌, ◌++◌, length, Option, Some, None, Result, Ok, Err, refl, sym, ap, ◌∙◌, subst, inl, inr, ◌⊎◌, arith, get_or}
use Rattle.std.specs.Prelude.{◌==◌, ◌||◌, ◌&&◌, nat_lt, IsSome, IsOk, is_ok, slice_set, unwrap_or}
use Rattle.std.specs.BTreeMap.{insert_entry}
use Rattle.std.specs.Cmp.Lexicographic.{slice_cmp}
use Rattle.std.specs.List.{list_any}
use Rattle.std.specs.Map.{lookup, remove_entry}
use Rattle.std.specs.Option.{option_map}
use Rattle.std.specs.Ordering.{nat_cmp}
use Rattle.std.specs.Str.{bytes_eq}
use Rattle.std.proofs.lemmas.Bool.{true≢false, false≢true, or_left, or_right, cases_eq, cases_lt, lt-ltb, eq-eqb, ne_eqb}
use Rattle.std.proofs.lemmas.List.{get_or-set_same, get_or-set_other, get_or_past, length-set}
use Rattle.std.proofs.lemmas.Option.{none-some}
use Rattle.slab.specs.Slab.{Slab, with_value}
use Rattle.tl_types.specs.Same.{file_cmp, file_same, file_same-Decides}
use Rattle.tl_types.specs.declared.file_id.FileId.{FileId}
use Rattle.tl_model.specs.declared.command.Command.{Command}
use Rattle.tl_model.specs.declared.command.Command.TheVariants.{Delete, Pin, Unpin}
use Rattle.tl_model.specs.declared.record.Record.{Record}
use Rattle.tl_model.specs.declared.reply.Reply.{Reply}
use Rattle.tl_model.specs.declared.reply.Reply.TheVariants.{Fine, NotEmpty}
use Rattle.tl_model.specs.Namespace.{PathOf, dir, file, Names, node_at, children, parent, last_part, with_pin, with_pinned, without_name}
use Rattle.tl_model.specs.Replies.{Found, and_then, is_full, refusal_of, unless, walk_to_file}
use Rattle.tl_model.specs.History.{is_file_node, is_pinned_node}
use Rattle.tl_names.specs.declared.child.Child.{Child}
use Rattle.tl_names.specs.declared.child.Child.TheVariants.{Dir, File}
use Rattle.tl_names.specs.Answers.{Answers, tables}
use Rattle.tl_names.specs.Pins.{PinList, PinsStandFor, names_file, pins_file, pin_in, pin_of}
use Rattle.tl_names.specs.Standing.{HasEachOnce, StandsFor}
use Rattle.tl_names.specs.Tables.{Children, Dirs, children_at, child_at, file_of, node_found, place, with_child, without_child, IsKnown, IsTree}
use Rattle.tl_names.proofs.Answered.{file_refuses, file_same_walk, kept_answers, same_count, walk_refuses}
use Rattle.tl_names.proofs.Ascending.{Ascends}
use Rattle.tl_names.proofs.Changes.{OneChanged, IsLeaf, LeafChanged, leaf_changed}
use Rattle.tl_names.proofs.Entries.{inserted_here, inserted_apart, removed_apart}
use Rattle.tl_names.proofs.Files.{by_file}
use Rattle.tl_names.proofs.Kept.{NamesChanged, child_set, empty_leaf, file_leaf, name_pinned, name_removed, no_leaf, set_one, stands_changed, unset_one, with_ascends, without_ascends}
use Rattle.tl_names.proofs.Listed.{count_same}
use Rattle.tl_names.proofs.Outputs.{pin_absent}
use Rattle.tl_names.proofs.Pinned.{any_split, file_found, file_gone, pin_here, pin_others, pinned_files, pinned_files_once, without_files_once}
use Rattle.tl_names.proofs.Places.{LastStep, known_place, last_step}
use Rattle.tl_names.proofs.Replied.{found_as, parts_again, walk_same}
use Rattle.tl_names.proofs.Trees.{same_name, same_tree, set_apart, set_known, tree_changed}

-- where a path that isn't `/` names something
pub record At (dirs : Dirs) (path : PathOf) (d : ℕ) (x : Child) : Type 0 where
  pub above : place dirs (parent path) ≡ Ok (Dir d)
  pub found : child_at dirs d (last_part path) ≡ Some x
  pub again : parent path ++ last_part path ∷ [] ≡ path

ok_is : (x y : Child) (r : Result Child Reply) → r ≡ Ok x → r ≡ Ok y → x ≡ y
ok_is x y r is also = cc

pub above_is : (dirs : Dirs) (path : PathOf) (x : Child) → (length path ≡ 0 → ⊥) → place dirs path ≡ Ok x → LastStep dirs (parent path) (last_part path) x
above_is dirs [] x some at = absurd (some refl)
above_is dirs (part ∷ rest) x some at = last_step dirs (parent (part ∷ rest)) (last_part (part ∷ rest)) x (ap (place dirs) (parts_again part rest) ∙ at)

again_is : (path : PathOf) → (length path ≡ 0 → ⊥) → parent path ++ last_part path ∷ [] ≡ path
again_is [] some = absurd (some refl)
again_is (part ∷ rest) some = parts_again part rest

pub at_is : (dirs : Dirs) (path : PathOf) (d : ℕ) (x : Child) → (length path ≡ 0 → ⊥) → place dirs path ≡ Ok x → place dirs (parent path) ≡ Ok (Dir d) → At dirs path d x
at_is dirs path d x some at above =
    let last : LastStep dirs (parent path) (last_part path) x = above_is dirs path x some at in
    let same : Dir last.above ≡ Dir d = ok_is (Dir last.above) (Dir d) (place dirs (parent path)) last.at above in
    let number : last.above ≡ d = cc in
    record { above = above; found = ap (λ k. child_at dirs k (last_part path)) (sym number) ∙ last.found; again = again_is path some }

pub file_some : (dirs : Dirs) (path : PathOf) (f : FileId) (b : Bool) → place dirs path ≡ Ok (File f b) → length path ≡ 0 → ⊥
file_some dirs [] f b at empty = cc
file_some dirs (part ∷ rest) f b at empty = let long : suc (length rest) ≡ 0 = empty in omega arith

ok_value : (r : Result Child Reply) → IsOk r → (x : Child) × (r ≡ Ok x)
ok_value (Ok x) ok = (x, refl)
ok_value (Err e) ok = absurd (false≢true ok)

pub above_there : (dirs : Dirs) (path : PathOf) (r : Result Child Reply) → IsOk (place dirs path) → 0 < length path → r ≡ place dirs (parent path) → (d : ℕ) × (r ≡ Ok (Dir d))
above_there dirs path r ok some is =
    let value : (x : Child) × (place dirs path ≡ Ok x) = ok_value (place dirs path) ok in
    let last : LastStep dirs (parent path) (last_part path) value.0 = above_is dirs path value.0 (λ empty. omega arith) value.1 in
    (last.above, is ∙ last.at)

-- a leaf at a path changes
leaf_at : (old new : Dirs) (path : PathOf) (d : ℕ) (x : Child) (o : Option Child) → IsTree old → At old path d x → OneChanged old new d (last_part path) → IsLeaf old (Some x) →
    child_at new d (last_part path) ≡ o → IsLeaf new o → LeafChanged old new path o
leaf_at old new path d x o tree at one was is leaf =
    subst (LeafChanged old new path) is
    (subst (λ p. LeafChanged old new p (child_at new d (last_part path))) at.again
    (leaf_changed old new (parent path) d (last_part path) tree at.above one (subst (IsLeaf old) (sym at.found) was) (subst (IsLeaf new) (sym is) leaf)))

-- where the changed name stands for no directory, the tree stays one
no_dir_tree : (old new : Dirs) (d : ℕ) (n : List ℕ) → IsTree old → OneChanged old new d n → ((e : ℕ) → IsKnown old e → IsKnown new e) → ((e : ℕ) → Ascends (children_at new e)) → ((k : ℕ) → child_at new d n ≡ Some (Dir k) → ⊥) → IsTree new
no_dir_tree old new d n tree one keeps ascend none =
    tree_changed old new d n tree one keeps ascend (record { known = λ k is. absurd (none k is); below = none 0; alone = λ c k m is apart also. none k is })

taken_slots : (s mid : Slab Children) (d : ℕ) (n : List ℕ) → mid ≡ with_value s d (remove_entry (bytes_eq n) (children_at s.slots d)) → without_child s.slots d n ≡ mid.slots
taken_slots s mid d n is = sym (ap (λ m. m.slots) is)

taken_ascends : (s mid : Slab Children) (d : ℕ) (n : List ℕ) → IsTree s.slots → IsKnown s.slots d → mid ≡ with_value s d (remove_entry (bytes_eq n) (children_at s.slots d)) → (e : ℕ) → Ascends (children_at mid.slots e)
taken_ascends s mid d n tree known is e = subst (λ slots. Ascends (children_at slots e)) (taken_slots s mid d n is) (without_ascends s.slots d n tree known e)

-- ---- a file's name taken away

others_file : (g f : FileId) → (g ≡ f → ⊥) → file_same g f ≡ false
others_file g f apart = by (file_same g f) refl
  where
    by : (t : Bool) → file_same g f ≡ t → t ≡ false
    by false is = refl
    by true is = absurd (apart ((file_same-Decides g f).0 is))

file_taken : (pins after : PinList) (names : Names) (path : PathOf) (f : FileId) (b : Bool) (count : ℕ) → HasEachOnce names → node_at names path ≡ Some (file f b) →
    after ≡ remove_entry (file_same f) pins → pin_in after f ≡ None → PinsStandFor pins names count → PinsStandFor after (without_name names path) count
file_taken pins after names path f b count once at is gone stand = record {
  found = λ g. by g (file_same g f) refl;
  once = without_files_once path names stand.once;
  made = λ g named. stand.made g (any_split (is_file_node g) path (file f b) names once at ∙ or_right (file_same g f) (list_any (names_file g) (without_name names path)) named);
}
  where
    by : (g : FileId) (t : Bool) → file_same g f ≡ t → pin_in after g ≡ pin_of (without_name names path) g
    by g true same =
        let g_is : g ≡ f = (file_same-Decides g f).0 same in
        ap (pin_in after) g_is ∙ gone ∙ sym (pin_absent (without_name names path) f (file_gone f b path names once stand.once at)) ∙ ap (pin_of (without_name names path)) (sym g_is)
    by g false apart =
        let off : g ≡ f → ⊥ = λ g_is. true≢false (sym ((file_same-Decides g f).1 g_is) ∙ apart) in
        ap (λ p. pin_in p g) is ∙ removed_apart file_cmp file_same by_file f g pins off ∙ stand.found g
        ∙ ap (λ t. cond t (Some (list_any (pins_file g) names)) None)
        (any_split (is_file_node g) path (file f b) names once at ∙ ap (λ t. t || list_any (names_file g) (without_name names path)) apart)
        ∙ ap (λ t. cond (list_any (names_file g) (without_name names path)) (Some t) None)
        (any_split (is_pinned_node g) path (file f b) names once at ∙ ap (λ t. (t && b) || list_any (pins_file g) (without_name names path)) apart)

pub file_deleted : (s mid : Slab Children) (pins after : PinList) (path : PathOf) (d : ℕ) (f : FileId) (b : Bool) → IsTree s.slots → place s.slots path ≡ Ok (File f b) →
    place s.slots (parent path) ≡ Ok (Dir d) → mid ≡ with_value s d (remove_entry (bytes_eq (last_part path)) (children_at s.slots d)) → child_at mid.slots d (last_part path) ≡ None →
    after ≡ remove_entry (file_same f) pins → pin_in after f ≡ None → (count : ℕ) → Answers (tables s.slots pins) (tables mid.slots after) count (Delete path) Fine
file_deleted s mid pins after path d f b tree at above is gone taken unpinned count = record {
  said = λ names stands. sym (ap (λ w. unless (refusal_of (and_then w (λ node. cond (is_full names path node) (Err NotEmpty) (Ok node)))) Fine) (walk_same s.slots names stands path ∙ ap found_as at));
  names = λ names stands. stands_changed s.slots mid.slots names (without_name names path) path None stands leaf (name_removed names path stands.once);
  pins = λ names stands stand.
      same_count after (without_name names path) count [] refl
      (file_taken pins after names path f b count stands.once (sym (stands.found path) ∙ ap node_found at) taken unpinned stand);
  unchanged = λ no. absurd (true≢false no);
  tree = no_dir_tree s.slots mid.slots d (last_part path) tree one keeps (taken_ascends s mid d (last_part path) tree known is) (λ k led. none-some (Dir k) (sym gone ∙ led));
}
  where
    there : At s.slots path d (File f b)
    there = at_is s.slots path d (File f b) (file_some s.slots path f b at) at above

    known : IsKnown s.slots d
    known = known_place s.slots tree (parent path) d above

    one : OneChanged s.slots mid.slots d (last_part path)
    one = subst (λ slots. OneChanged s.slots slots d (last_part path)) (taken_slots s mid d (last_part path) is) (unset_one s.slots d (last_part path) known)

    keeps : (e : ℕ) → IsKnown s.slots e → IsKnown mid.slots e
    keeps e in_use = subst (λ slots. IsKnown slots e) (taken_slots s mid d (last_part path) is) (set_known s.slots d e _ in_use)

    leaf : LeafChanged s.slots mid.slots path None
    leaf = leaf_at s.slots mid.slots path d (File f b) None tree there one (file_leaf s.slots (File f b) (Some (File f b)) refl (λ k led. cc)) gone (no_leaf mid.slots)

-- ---- an empty directory's name taken away

dir_taken : (pins : PinList) (names : Names) (path : PathOf) (count : ℕ) → HasEachOnce names → node_at names path ≡ Some dir → PinsStandFor pins names count → PinsStandFor pins (without_name names path) count
dir_taken pins names path count once at stand = record {
  found = λ g. stand.found g
      ∙ ap (λ t. cond t (Some (list_any (pins_file g) names)) None) (any_split (is_file_node g) path dir names once at)
      ∙ ap (λ t. cond (list_any (names_file g) (without_name names path)) (Some t) None) (any_split (is_pinned_node g) path dir names once at);
  once = without_files_once path names stand.once;
  made = λ g named. stand.made g (any_split (is_file_node g) path dir names once at ∙ named);
}

-- a slot taken out of use has no names
freed_children : (dirs : Dirs) (e k : ℕ) → children_at dirs e ≡ [] → children_at (slice_set dirs e None) k ≡ children_at dirs k
freed_children dirs e k empty = by (cases_eq k e)
  where
    no_names : (o : Option Children) → o ≡ None → unwrap_or o [] ≡ []
    no_names o is = ap (λ p. unwrap_or p []) is

    here : (e < length dirs) ⊎ (length dirs ≤ e) → children_at (slice_set dirs e None) e ≡ []
    here (inl below) = no_names (get_or (slice_set dirs e None) e None) (get_or-set_same dirs e None None below)
    here (inr past) = no_names (get_or (slice_set dirs e None) e None) (get_or_past (slice_set dirs e None) e None (subst (λ n. n ≤ e) (sym (length-set dirs e None)) past))

    by : (k ≡ e) ⊎ (k ≡ e → ⊥) → children_at (slice_set dirs e None) k ≡ children_at dirs k
    by (inl same) = ap (children_at (slice_set dirs e None)) same ∙ here (cases_lt e (length dirs)) ∙ sym empty ∙ ap (children_at dirs) (sym same)
    by (inr apart) = ap (λ o. unwrap_or o []) (get_or-set_other dirs e k None None apart)

nothing_long : (names : Children) → length names ≡ 0 → names ≡ []
nothing_long [] short = refl
nothing_long (n ∷ rest) short = let long : suc (length rest) ≡ 0 = short in absurd (omega arith)

pub dir_deleted : (s mid : Slab Children) (new : Dirs) (pins : PinList) (path : PathOf) (d e : ℕ) → IsTree s.slots → (length path ≡ 0 → ⊥) → place s.slots path ≡ Ok (Dir e) →
    place s.slots (parent path) ≡ Ok (Dir d) → length (children_at s.slots e) ≡ 0 →
    mid ≡ with_value s d (remove_entry (bytes_eq (last_part path)) (children_at s.slots d)) → child_at mid.slots d (last_part path) ≡ None → new ≡ slice_set mid.slots e None →
    (count : ℕ) → Answers (tables s.slots pins) (tables new pins) count (Delete path) Fine
dir_deleted s mid new pins path d e tree some at above short is gone freed count = record {
  said = λ names stands.
      sym (ap (λ w. unless (refusal_of (and_then w (λ node. cond (is_full names path node) (Err NotEmpty) (Ok node)))) Fine) (walk_same s.slots names stands path ∙ ap found_as at)
      ∙ ap (λ t. unless (refusal_of (cond {A = Found} (t || nat_lt 0 (length (children names path))) (Err NotEmpty) (Ok dir))) Fine) (others_zero (length path) some)
      ∙ ap (λ n. unless (refusal_of (cond {A = Found} (nat_lt 0 n) (Err NotEmpty) (Ok dir))) Fine) (count_same s.slots names stands path e at (tree.ascending e) ∙ short));
  names = λ names stands. stands_changed s.slots new names (without_name names path) path None stands leaf (name_removed names path stands.once);
  pins = λ names stands stand.
      same_count pins (without_name names path) count [] refl (dir_taken pins names path count stands.once (sym (stands.found path) ∙ ap node_found at) stand);
  unchanged = λ no. absurd (true≢false no);
  tree = same_tree mid.slots new mid_tree same (in_use 0 mid_tree.root (λ zero_is. tree.top d (last_part path) (there.found ∙ ap (λ k. Some (Dir k)) (sym zero_is))))
      (λ c k m led. in_use k (mid_tree.known c k m led) (λ k_is. not_there c k m led k_is (same_at c m)));
}
  where
    others_zero : (n : ℕ) → (n ≡ 0 → ⊥) → (n == 0) ≡ false
    others_zero n apart = ne_eqb n 0 apart

    there : At s.slots path d (Dir e)
    there = at_is s.slots path d (Dir e) some at above

    known : IsKnown s.slots d
    known = known_place s.slots tree (parent path) d above

    mid_one : OneChanged s.slots mid.slots d (last_part path)
    mid_one = subst (λ slots. OneChanged s.slots slots d (last_part path)) (taken_slots s mid d (last_part path) is) (unset_one s.slots d (last_part path) known)

    keeps : (k : ℕ) → IsKnown s.slots k → IsKnown mid.slots k
    keeps k used = subst (λ slots. IsKnown slots k) (taken_slots s mid d (last_part path) is) (set_known s.slots d k _ used)

    mid_tree : IsTree mid.slots
    mid_tree = no_dir_tree s.slots mid.slots d (last_part path) tree mid_one keeps (taken_ascends s mid d (last_part path) tree known is) (λ k led. none-some (Dir k) (sym gone ∙ led))

    -- the directory taken away is not the one that its name stood in
    apart_dirs : d ≡ e → ⊥
    apart_dirs d_is = no_names_there (children_at s.slots e) (nothing_long (children_at s.slots e) short) (sym (ap (λ k. child_at s.slots k (last_part path)) d_is) ∙ there.found)
      where
        no_names_there : (names : Children) → names ≡ [] → lookup (bytes_eq (last_part path)) names ≡ Some (Dir e) → ⊥
        no_names_there names empty found = none-some (Dir e) (sym (ap (lookup (bytes_eq (last_part path))) empty) ∙ found)

    mid_empty : children_at mid.slots e ≡ []
    mid_empty = ap (λ slots. children_at slots e) (sym (taken_slots s mid d (last_part path) is)) ∙ set_apart s.slots d e _ (λ e_is. apart_dirs (sym e_is)) ∙ nothing_long (children_at s.slots e) short

    same : (k : ℕ) → children_at new k ≡ children_at mid.slots k
    same k = ap (λ slots. children_at slots k) freed ∙ freed_children mid.slots e k mid_empty

    one : OneChanged s.slots new d (last_part path)
    one = record { others = λ c m apart. ap (lookup (bytes_eq m)) (same c) ∙ mid_one.others c m apart }

    leaf : LeafChanged s.slots new path None
    leaf = leaf_at s.slots new path d (Dir e) None tree there one (empty_leaf s.slots e (nothing_long (children_at s.slots e) short)) (ap (lookup (bytes_eq (last_part path))) (same d) ∙ gone) (no_leaf new)

    in_use : (k : ℕ) → IsKnown mid.slots k → (k ≡ e → ⊥) → IsKnown new k
    in_use k used apart = subst (λ slots. IsKnown slots k) (sym freed) (subst IsSome (sym (get_or-set_other mid.slots e k None None apart)) used)

    same_at : (c : ℕ) (m : List ℕ) → ((c ≡ d) × (m ≡ last_part path)) ⊎ ((c ≡ d) × (m ≡ last_part path) → ⊥)
    same_at c m = same_name d c (last_part path) m

    not_there : (c k : ℕ) (m : List ℕ) → child_at mid.slots c m ≡ Some (Dir k) → k ≡ e → ((c ≡ d) × (m ≡ last_part path)) ⊎ ((c ≡ d) × (m ≡ last_part path) → ⊥) → ⊥
    not_there c k m led k_is (inl both) = none-some (Dir k) (sym gone ∙ ap (λ j. child_at mid.slots j (last_part path)) (sym both.0) ∙ ap (child_at mid.slots c) (sym both.1) ∙ led)
    not_there c k m led k_is (inr apart) =
        apart (tree.once c d e m (last_part path) (sym (mid_one.others c m apart) ∙ led ∙ ap (λ j. Some (Dir j)) k_is) there.found)

-- ---- a name that can't be taken away

pub full_deleted : (dirs : Dirs) (pins : PinList) (path : PathOf) (e : ℕ) → IsTree dirs → place dirs path ≡ Ok (Dir e) →
    (length path ≡ 0) ⊎ (0 < length (children_at dirs e)) → (count : ℕ) → Answers (tables dirs pins) (tables dirs pins) count (Delete path) NotEmpty
full_deleted dirs pins path e tree at full count =
    kept_answers (tables dirs pins) count (Delete path) NotEmpty tree refl (λ names stands.
    sym (ap (λ w. unless (refusal_of (and_then w (λ node. cond (is_full names path node) (Err NotEmpty) (Ok node)))) Fine) (walk_same dirs names stands path ∙ ap found_as at)
    ∙ ap (λ t. unless (refusal_of (cond {A = Found} t (Err NotEmpty) (Ok dir))) Fine) (by names stands full)))
  where
    by : (names : Names) → StandsFor dirs names → (length path ≡ 0) ⊎ (0 < length (children_at dirs e)) → is_full names path dir ≡ true
    by names stands (inl empty) = or_left (length path == 0) (nat_lt 0 (length (children names path))) (eq-eqb (length path) 0 empty)
    by names stands (inr some) =
        or_right (length path == 0) (nat_lt 0 (length (children names path))) (ap (nat_lt 0) (count_same dirs names stands path e at (tree.ascending e)) ∙ lt-ltb 0 (length (children_at dirs e)) some)

pub delete_refused : (dirs : Dirs) (pins : PinList) (path : PathOf) (r : Reply) → IsTree dirs → place dirs path ≡ Err r → (count : ℕ) → Answers (tables dirs pins) (tables dirs pins) count (Delete path) r
delete_refused dirs pins path r tree at count =
    kept_answers (tables dirs pins) count (Delete path) r tree (walk_refuses dirs path (Dir 0) r at) (λ names stands.
    sym (ap (λ w. unless (refusal_of (and_then w (λ node. cond (is_full names path node) (Err NotEmpty) (Ok node)))) Fine) (walk_same dirs names stands path ∙ ap found_as at)))

-- ---- pins

abbrev pub pin_command : PathOf → Bool → Command (Unit {0})
pin_command path pinned = cond pinned (Pin path) (Unpin path)

file_repinned : (pins after : PinList) (names : Names) (path : PathOf) (f : FileId) (b pinned : Bool) (count : ℕ) → HasEachOnce names → node_at names path ≡ Some (file f b) →
    after ≡ insert_entry file_cmp pins f pinned → PinsStandFor pins names count → PinsStandFor after (with_pinned names path pinned) count
file_repinned pins after names path f b pinned count once at is stand = record {
  found = λ g. by g (file_same g f) refl;
  once = pinned_files_once path pinned names stand.once;
  made = λ g named. stand.made g (sym (pinned_files g path pinned names) ∙ named);
}
  where
    by : (g : FileId) (t : Bool) → file_same g f ≡ t → pin_in after g ≡ pin_of (with_pinned names path pinned) g
    by g true same =
        let g_is : g ≡ f = (file_same-Decides g f).0 same in
        ap (pin_in after) g_is ∙ ap (λ p. pin_in p f) is ∙ inserted_here file_cmp file_same by_file f pinned pins
        ∙ ap Some (sym (pin_here f b path pinned names once stand.once at))
        ∙ ap (λ t. cond t (Some (list_any (pins_file f) (with_pinned names path pinned))) None) (sym (pinned_files f path pinned names ∙ file_found f b path names once at))
        ∙ ap (pin_of (with_pinned names path pinned)) (sym g_is)
    by g false apart =
        let off : g ≡ f → ⊥ = λ g_is. true≢false (sym ((file_same-Decides g f).1 g_is) ∙ apart) in
        ap (λ p. pin_in p g) is ∙ inserted_apart file_cmp file_same by_file f g pinned pins off ∙ stand.found g
        ∙ ap (λ t. cond t (Some (list_any (pins_file g) names)) None) (sym (pinned_files g path pinned names))
        ∙ ap (λ t. cond (list_any (names_file g) (with_pinned names path pinned)) (Some t) None) (sym (pin_others g f b path pinned names off once at))

pub file_pinned : (s new : Slab Children) (pins after : PinList) (path : PathOf) (d : ℕ) (f : FileId) (b pinned : Bool) → IsTree s.slots → place s.slots path ≡ Ok (File f b) →
    place s.slots (parent path) ≡ Ok (Dir d) → new ≡ with_value s d (insert_entry (slice_cmp nat_cmp) (children_at s.slots d) (last_part path) (File f pinned)) →
    after ≡ insert_entry file_cmp pins f pinned → (count : ℕ) → Answers (tables s.slots pins) (tables new.slots after) count (pin_command path pinned) Fine
file_pinned s new pins after path d f b pinned tree at above is set count = by pinned refl
  where
    there : At s.slots path d (File f b)
    there = at_is s.slots path d (File f b) (file_some s.slots path f b at) at above

    known : IsKnown s.slots d
    known = known_place s.slots tree (parent path) d above

    slots_are : with_child s.slots d (last_part path) (File f pinned) ≡ new.slots
    slots_are = sym (ap (λ m. m.slots) is)

    one : OneChanged s.slots new.slots d (last_part path)
    one = subst (λ slots. OneChanged s.slots slots d (last_part path)) slots_are (set_one s.slots d (last_part path) (File f pinned) known)

    here : child_at new.slots d (last_part path) ≡ Some (File f pinned)
    here = ap (λ slots. child_at slots d (last_part path)) (sym slots_are) ∙ child_set s.slots d (last_part path) (File f pinned) known

    keeps : (e : ℕ) → IsKnown s.slots e → IsKnown new.slots e
    keeps e in_use = subst (λ slots. IsKnown slots e) slots_are (set_known s.slots d e _ in_use)

    not_dir : (k : ℕ) → Some (File f pinned) ≡ Some (Dir k) → ⊥
    not_dir k led = cc

    new_tree : IsTree new.slots
    new_tree = no_dir_tree s.slots new.slots d (last_part path) tree one keeps (λ e. subst (λ slots. Ascends (children_at slots e)) slots_are (with_ascends s.slots d (last_part path) (File f pinned) tree known e)) (λ k led. not_dir k (sym here ∙ led))

    leaf : LeafChanged s.slots new.slots path (Some (File f pinned))
    leaf = leaf_at s.slots new.slots path d (File f b) (Some (File f pinned)) tree there one (file_leaf s.slots (File f b) (Some (File f b)) refl (λ k led. cc)) here
        (file_leaf new.slots (File f pinned) (Some (File f pinned)) refl (λ k led. cc))

    said : (names : Names) → StandsFor s.slots names → Fine ≡ unless (refusal_of (walk_to_file names path)) Fine
    said names stands = sym (ap (λ w. unless (refusal_of w) Fine) (file_same_walk s.slots names stands path ∙ ap (λ w. and_then w file_of) at))

    node_is : (names : Names) → StandsFor s.slots names → node_at names path ≡ Some (file f b)
    node_is names stands = sym (stands.found path) ∙ ap node_found at

    after_names : (names : Names) → StandsFor s.slots names → StandsFor new.slots (with_pinned names path pinned)
    after_names names stands =
        stands_changed s.slots new.slots names (with_pinned names path pinned) path (Some (File f pinned)) stands leaf
        (subst (NamesChanged names (with_pinned names path pinned) path) (ap (option_map (with_pin pinned)) (node_is names stands)) (name_pinned names path pinned stands.once))

    after_pins : (names : Names) → StandsFor s.slots names → PinsStandFor pins names count → PinsStandFor after (with_pinned names path pinned) (count + length {A = Record} [])
    after_pins names stands stand = same_count after (with_pinned names path pinned) count [] refl (file_repinned pins after names path f b pinned count stands.once (node_is names stands) set stand)

    by : (p : Bool) → pinned ≡ p → Answers (tables s.slots pins) (tables new.slots after) count (pin_command path p) Fine
    by true p_is = record {
      said = said;
      names = λ names stands. subst (λ p. StandsFor new.slots (with_pinned names path p)) p_is (after_names names stands);
      pins = λ names stands stand. subst (λ p. PinsStandFor after (with_pinned names path p) (count + length {A = Record} [])) p_is (after_pins names stands stand);
      unchanged = λ no. absurd (true≢false no);
      tree = new_tree;
    }
    by false p_is = record {
      said = said;
      names = λ names stands. subst (λ p. StandsFor new.slots (with_pinned names path p)) p_is (after_names names stands);
      pins = λ names stands stand. subst (λ p. PinsStandFor after (with_pinned names path p) (count + length {A = Record} [])) p_is (after_pins names stands stand);
      unchanged = λ no. absurd (true≢false no);
      tree = new_tree;
    }

pub pin_refused : (dirs : Dirs) (pins : PinList) (path : PathOf) (pinned : Bool) (r : Reply) → IsTree dirs → and_then (place dirs path) file_of ≡ Err r → (count : ℕ) →
    Answers (tables dirs pins) (tables dirs pins) count (pin_command path pinned) r
pin_refused dirs pins path pinned r tree at count = by pinned
  where
    said : (names : Names) → StandsFor dirs names → r ≡ unless (refusal_of (walk_to_file names path)) Fine
    said names stands = sym (ap (λ w. unless (refusal_of w) Fine) (file_same_walk dirs names stands path ∙ at))

    by : (p : Bool) → Answers (tables dirs pins) (tables dirs pins) count (pin_command path p) r
    by true = kept_answers (tables dirs pins) count (Pin path) r tree (file_refuses dirs path r at) said
    by false = kept_answers (tables dirs pins) count (Unpin path) r tree (file_refuses dirs path r at) said

-- ---- what the code meets

pub not_file : (f : FileId) (b : Bool) (d : ℕ) (r : Result Child Reply) → r ≡ Ok (File f b) → r ≡ Ok (Dir d) → ⊥
not_file f b d r is also = cc

pub not_refused : (e : Reply) (d : ℕ) (r : Result Child Reply) → r ≡ Err e → r ≡ Ok (Dir d) → ⊥
not_refused e d r is also = cc

-- the file that was walked to
pub file_there : (dirs : Dirs) (path : PathOf) (f : FileId) → Ok f ≡ and_then (place dirs path) file_of → (b : Bool) × (place dirs path ≡ Ok (File f b))
file_there dirs path f is = by (place dirs path) is
  where
    by : (r : Result Child Reply) → Ok f ≡ and_then r file_of → (b : Bool) × (r ≡ Ok (File f b))
    by (Err e) led = absurd cc
    by (Ok (Dir d)) led = absurd cc
    by (Ok (File g b)) led = (b, cc)

pub there_ok : (dirs : Dirs) (path : PathOf) (x : Child) → place dirs path ≡ Ok x → IsOk (place dirs path)
there_ok dirs path x at = ap is_ok at

pub some_long : (path : PathOf) → (length path ≡ 0 → ⊥) → 0 < length path
some_long [] some = absurd (some refl)
some_long (part ∷ rest) some = omega arith

-- a directory that a path names is still in use when another directory's names changed
pub still_known : (s mid : Slab Children) → IsTree s.slots → (path : PathOf) (d e : ℕ) (n : List ℕ) → place s.slots path ≡ Ok (Dir e) → mid ≡ with_value s d (remove_entry (bytes_eq n) (children_at s.slots d)) → IsKnown mid.slots e
still_known s mid tree path d e n at is = subst (λ slots. IsKnown slots e) (taken_slots s mid d n is) (set_known s.slots d e _ (known_place s.slots tree path e at))

-- a name that stands for something can be set without memory
pub name_there : (dirs : Dirs) (path : PathOf) (d : ℕ) (f : FileId) (b : Bool) → place dirs path ≡ Ok (File f b) → place dirs (parent path) ≡ Ok (Dir d) → child_at dirs d (last_part path) ≡ None → ⊥
name_there dirs path d f b at above none = none-some (File f b) (sym none ∙ (at_is dirs path d (File f b) (file_some dirs path f b at) at above).found)
