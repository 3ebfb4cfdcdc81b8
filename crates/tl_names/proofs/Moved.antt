-- Names after a move.
use Rattle.std.proofs.Common.{◌≡◌, ℕ, ◌+◌, ◌-◌, ◌<◌, ◌≤◌, suc, Bool, true, false, cond, List, [], ◌∷◌, ◌++◌, length, drop, Some, None, Result, Ok, Err, refl, sym, ap, ◌∙◌, subst, inl, inr, ◌⊎◌, arith, length-append, append_assoc}
use Rattle.std.specs.List.{list_any}
use Rattle.std.specs.BTreeMap.{insert_entry}
use Rattle.std.specs.Cmp.Lexicographic.{slice_cmp}
use Rattle.std.specs.Map.{remove_entry}
use Rattle.std.specs.Ordering.{nat_cmp}
use Rattle.std.specs.Str.{bytes_eq}
use Rattle.std.proofs.lemmas.Bool.{true≢false, cond-true, cond-false}
use Rattle.std.proofs.lemmas.Bool.Decides.{same_from_decides}
use Rattle.std.proofs.lemmas.List.{append_cancel_left}
use Rattle.std.proofs.lemmas.Option.{none-some}
use Rattle.slab.specs.Slab.{Slab, with_value}
use Rattle.tl_types.specs.Same.{path_same, path_same-Decides}
use Rattle.tl_model.specs.declared.command.Command.TheVariants.{Rename}
use Rattle.tl_model.specs.declared.reply.Reply.{Reply}
use Rattle.tl_model.specs.declared.reply.Reply.TheVariants.{Fine, IntoItself, TooDeep}
use Rattle.tl_model.specs.Namespace.{PathOf, Names, node_at, is_below, last_part, moved, parent, with_moved}
use Rattle.tl_model.specs.Replies.{and_then, is_too_deep, new_refusal, or_else, refusal_of, refuse_where, rename_refusal, unless}
use Rattle.tl_model.specs.History.{is_file_node, is_pinned_node}
use Rattle.tl_names.specs.declared.child.Child.{Child}
use Rattle.tl_names.specs.declared.child.Child.TheVariants.{Dir}
use Rattle.tl_names.specs.Answers.{Answers, tables}
use Rattle.tl_names.specs.Moves.{bytes_of, child_fits}
use Rattle.tl_names.specs.Pins.{PinList, PinsStandFor, names_file, pins_file}
use Rattle.tl_names.specs.Standing.{HasEachOnce, StandsFor}
use Rattle.tl_names.specs.Tables.{Children, Dirs, children_at, child_at, found_child, walk_from, place, node_found, node_in, room_for, with_child, without_child, IsKnown, IsTree}
use Rattle.tl_names.proofs.Answered.{kept_answers, room_refuses, same_count, walk_refuses}
use Rattle.tl_names.proofs.Ascending.{Ascends, removed_ascends}
use Rattle.tl_names.proofs.Below.{below_from, below_rest, is_below-append, not_below, paths_apart}
use Rattle.tl_names.proofs.Changes.{OneChanged}
use Rattle.tl_names.proofs.Kept.{child_set, set_one, unset_one, with_ascends}
use Rattle.tl_names.proofs.Lookups.{NoneBelow, absent_head, moved_all, none_replaced}
use Rattle.tl_names.proofs.Movable.{is_deep, moved_below, not_deep}
use Rattle.tl_names.proofs.Pinned.{moved_any, moved_files_once}
use Rattle.tl_names.proofs.Places.{SameOff, below_place, known_place, same_walk, unique_path, walk_append}
use Rattle.tl_names.proofs.Replied.{found_as, room_same, walk_same}
use Rattle.tl_names.proofs.Rooms.{RoomAt, room_found}
use Rattle.tl_names.proofs.Taken.{At, at_is}
use Rattle.tl_names.proofs.Trees.{same_name, set_ascends, set_known}

-- ---- moved paths

-- where a moved path comes from, when nothing lay at its new place
moved_once_only : (from to p e : PathOf) → is_below p to ≡ false → is_below e to ≡ false → moved from to p ≡ moved from to e → p ≡ e
moved_once_only from to p e p_off e_off same = by (is_below p from) refl (is_below e from) refl
  where
    goes : (q : PathOf) → is_below q from ≡ true → moved from to q ≡ to ++ drop (length from) q
    goes q below = cond-true (is_below q from) (to ++ drop (length from) q) q below

    stays : (q : PathOf) → is_below q from ≡ false → moved from to q ≡ q
    stays q apart = cond-false (is_below q from) (to ++ drop (length from) q) q apart

    by : (b : Bool) → is_below p from ≡ b → (c : Bool) → is_below e from ≡ c → p ≡ e
    by true p_in true e_in =
        below_rest p from p_in ∙ ap (λ r. from ++ r) (append_cancel_left to (drop (length from) p) (drop (length from) e) (sym (goes p p_in) ∙ same ∙ goes e e_in)) ∙ sym (below_rest e from e_in)
    by true p_in false e_out = absurd (not_below e to e_off (drop (length from) p) (sym (stays e e_out) ∙ sym same ∙ goes p p_in))
    by false p_out true e_in = absurd (not_below p to p_off (drop (length from) e) (sym (stays p p_out) ∙ same ∙ goes e e_in))
    by false p_out false e_out = sym (stays p p_out) ∙ same ∙ stays e e_out

moved_same : (from to p e : PathOf) → is_below p to ≡ false → is_below e to ≡ false → path_same (moved from to p) (moved from to e) ≡ path_same p e
moved_same from to p e p_off e_off =
    same_from_decides (path_same (moved from to p) (moved from to e)) (path_same p e)
    ((λ same. moved_once_only from to p e p_off e_off ((path_same-Decides (moved from to p) (moved from to e)).0 same)), (λ same. (path_same-Decides (moved from to p) (moved from to e)).1 (ap (moved from to) same)))
    (path_same-Decides p e)

-- no moved path is left where it was
moved_off : (from to q e : PathOf) → is_below q from ≡ true → is_below q to ≡ false → path_same q (moved from to e) ≡ false
moved_off from to q e q_in q_off = paths_apart q (moved from to e) (λ same. by same (is_below e from) refl)
  where
    by : q ≡ moved from to e → (b : Bool) → is_below e from ≡ b → ⊥
    by same true e_in = not_below q to q_off (drop (length from) e) (same ∙ cond-true (is_below e from) (to ++ drop (length from) e) e e_in)
    by same false e_out = true≢false (sym q_in ∙ ap (λ p. is_below p from) (same ∙ cond-false (is_below e from) (to ++ drop (length from) e) e e_out) ∙ e_out)

-- ---- the list of names

none_below : (to : PathOf) (es : Names) → ((q : PathOf) → is_below q to ≡ true → node_at es q ≡ None) → NoneBelow to es
none_below to [] none = tt
none_below to (e ∷ es) none = (by (is_below e.0 to) refl, none_below to es (λ q below. (absent_head q e es (none q below)).1))
  where
    by : (b : Bool) → is_below e.0 to ≡ b → b ≡ false
    by false is = refl
    by true is = absurd (none-some e.1 (sym (none e.0 is) ∙ cond-true (path_same e.0 e.0) (Some e.1) (node_at es e.0) ((path_same-Decides e.0 e.0).1 refl)))

moved_at : (from to p : PathOf) (es : Names) → NoneBelow to es → is_below p to ≡ false → node_at (moved_all from to es) (moved from to p) ≡ node_at es p
moved_at from to p [] none off = refl
moved_at from to p (e ∷ es) none off =
    ap (λ b. cond b (Some e.1) (node_at (moved_all from to es) (moved from to p))) (moved_same from to p e.0 off none.0) ∙ ap (cond (path_same p e.0) (Some e.1)) (moved_at from to p es none.1 off)

moved_left : (from to q : PathOf) (es : Names) → is_below q from ≡ true → is_below q to ≡ false → node_at (moved_all from to es) q ≡ None
moved_left from to q [] q_in q_off = refl
moved_left from to q (e ∷ es) q_in q_off =
    cond-false (path_same q (moved from to e.0)) (Some e.1) (node_at (moved_all from to es) q) (moved_off from to q e.0 q_in q_off) ∙ moved_left from to q es q_in q_off

moved_each_once : (from to : PathOf) (es : Names) → NoneBelow to es → HasEachOnce es → HasEachOnce (moved_all from to es)
moved_each_once from to [] none once = tt
moved_each_once from to (e ∷ es) none once = (moved_at from to e.0 es none.1 none.0 ∙ once.0, moved_each_once from to es none.1 once.1)

-- ---- the tables

-- the paths that a move touches
abbrev Touched : PathOf → PathOf → PathOf → Type 0
Touched from to path = (path ≡ from) ⊎ (path ≡ to)

-- two paths of which neither lies below the other have nothing below both
comparable : (a b s r : PathOf) → a ++ s ≡ b ++ r → (is_below a b ≡ true) ⊎ (is_below b a ≡ true)
comparable [] b s r same = inr (below_from b [] b refl)
comparable (x ∷ a) [] s r same = inl (below_from (x ∷ a) [] (x ∷ a) refl)
comparable (x ∷ a) (y ∷ b) s r same = by (comparable a b s r cc)
  where
    first : x ≡ y
    first = cc

    by : (is_below a b ≡ true) ⊎ (is_below b a ≡ true) → (is_below (x ∷ a) (y ∷ b) ≡ true) ⊎ (is_below (y ∷ b) (x ∷ a) ≡ true)
    by (inl below) = inl (below_from (x ∷ a) (y ∷ b) (drop (length b) a) (ap (λ z. z ∷ a) first ∙ ap (λ p. y ∷ p) (below_rest a b below)))
    by (inr below) = inr (below_from (y ∷ b) (x ∷ a) (drop (length a) b) (ap (λ z. z ∷ b) (sym first) ∙ ap (λ p. x ∷ p) (below_rest b a below)))

-- what a move does to the tables
pub record Move (old new : Dirs) (from to : PathOf) (x : Child) (d e : ℕ) : Type 0 where
  pub tree : IsTree old
  pub at : place old from ≡ Ok x
  pub apart : is_below to from ≡ false
  pub room : RoomAt old to d
  pub left : At old from e x
  pub here : child_at new d (last_part to) ≡ Some x
  pub gone : child_at new e (last_part from) ≡ None
  pub others : (c : ℕ) (m : List ℕ) → ((c ≡ d) × (m ≡ last_part to) → ⊥) → ((c ≡ e) × (m ≡ last_part from) → ⊥) → child_at new c m ≡ child_at old c m
  pub known : (c : ℕ) → IsKnown old c → IsKnown new c
  pub ascending : (c : ℕ) → Ascends (children_at new c)

module _ (old new : Dirs) (from to : PathOf) (x : Child) (d e : ℕ) (move : Move old new from to x d e) where
  -- nothing stands at the new place, nor below it
  absent_to : place old to ≡ found_child None
  absent_to = ap (place old) (sym move.room.again) ∙ below_place old (parent to) (last_part to) d move.room.above ∙ ap found_child move.room.new

  absent_below : (s : PathOf) → place old (to ++ s) ≡ found_child None
  absent_below s = walk_append old to s (Dir 0) ∙ ap (λ r. and_then r (walk_from old s)) absent_to

  from_off : is_below from to ≡ false
  from_off = by (is_below from to) refl
    where
      by : (b : Bool) → is_below from to ≡ b → b ≡ false
      by false is = refl
      by true is = absurd (never (sym move.at ∙ ap (place old) (below_rest from to is) ∙ absent_below (drop (length to) from)))
        where
          never : Ok x ≡ found_child None → ⊥
          never same = cc

  below_from_off : (q : PathOf) → is_below q from ≡ true → is_below q to ≡ false
  below_from_off q q_in = by (is_below q to) refl
    where
      either : (is_below from to ≡ true) ⊎ (is_below to from ≡ true) → ⊥
      either (inl below) = true≢false (sym below ∙ from_off)
      either (inr below) = true≢false (sym below ∙ move.apart)

      by : (b : Bool) → is_below q to ≡ b → b ≡ false
      by false is = refl
      by true is = absurd (either (comparable from to (drop (length from) q) (drop (length to) q) (sym (below_rest q from q_in) ∙ below_rest q to is)))

  off : SameOff old new (Touched from to)
  off = record {
    child = λ p c m led free. move.others c m
        (λ both. free (inr (ap (λ q. q ++ m ∷ []) (unique_path old move.tree p (parent to) d (led ∙ ap (λ k. Ok (Dir k)) both.0) move.room.above) ∙ ap (λ k. parent to ++ k ∷ []) both.1 ∙ move.room.again)))
        (λ both. free (inl (ap (λ q. q ++ m ∷ []) (unique_path old move.tree p (parent from) e (led ∙ ap (λ k. Ok (Dir k)) both.0) move.left.above) ∙ ap (λ k. parent from ++ k ∷ []) both.1 ∙ move.left.again)));
  }

  -- away from both places nothing changes
  same_place : (q : PathOf) → is_below q from ≡ false → is_below q to ≡ false → place new q ≡ place old q
  same_place q q_from q_to = same_walk old new (Touched from to) off [] q (Dir 0) refl (λ m r s is touched. by m r s is touched)
    where
      by : (m : List ℕ) (r s : PathOf) → q ≡ m ∷ r ++ s → Touched from to (m ∷ r) → ⊥
      by m r s is (inl there) = not_below q from q_from s (is ∙ ap (λ p. p ++ s) there)
      by m r s is (inr there) = not_below q to q_to s (is ∙ ap (λ p. p ++ s) there)

  shorter : (path : PathOf) (n : List ℕ) (whole : PathOf) → path ++ n ∷ [] ≡ whole → is_below path whole ≡ false
  shorter path n whole again = by (is_below path whole) refl
    where
      by : (b : Bool) → is_below path whole ≡ b → b ≡ false
      by false is = refl
      by true is =
          let long : length path ≡ length whole + length (drop (length whole) path) = ap length (below_rest path whole is) ∙ length-append whole (drop (length whole) path) in
          let more : length whole ≡ length path + length (n ∷ []) = ap length (sym again) ∙ length-append path (n ∷ []) in
          absurd (omega arith)

  -- what lies below a parent lies below its child
  parent_off : (path front : PathOf) (n : List ℕ) (whole : PathOf) → path ++ n ∷ [] ≡ whole → is_below whole front ≡ false → is_below path front ≡ false
  parent_off path front n whole again apart = by (is_below path front) refl
    where
      by : (b : Bool) → is_below path front ≡ b → b ≡ false
      by false is = refl
      by true is = absurd (not_below whole front apart (drop (length front) path ++ n ∷ []) (sym again ∙ ap (λ p. p ++ n ∷ []) (below_rest path front is) ∙ append_assoc front (drop (length front) path) (n ∷ [])))

  above_to : place new (parent to) ≡ Ok (Dir d)
  above_to = same_place (parent to) (parent_off (parent to) from (last_part to) to move.room.again move.apart) (shorter (parent to) (last_part to) to move.room.again) ∙ move.room.above

  above_from : place new (parent from) ≡ Ok (Dir e)
  above_from = same_place (parent from) (shorter (parent from) (last_part from) from move.left.again) (parent_off (parent from) to (last_part from) from move.left.again from_off) ∙ move.left.above

  -- at the old place nothing is left
  left_place : (s : PathOf) → place new (from ++ s) ≡ found_child None
  left_place s =
      walk_append new from s (Dir 0)
      ∙ ap (λ r. and_then r (walk_from new s)) (ap (place new) (sym move.left.again) ∙ below_place new (parent from) (last_part from) e above_from ∙ ap found_child move.gone)

  -- below the child everything is where it was
  same_below : (s : PathOf) → walk_from new s x ≡ walk_from old s x
  same_below s = same_walk old new (Touched from to) off from s x move.at (λ m r t is touched. by m r touched)
    where
      by : (m : List ℕ) (r : PathOf) → Touched from to (from ++ m ∷ r) → ⊥
      by m r (inl there) =
          let long : length (from ++ m ∷ r) ≡ length from + length (m ∷ r) = length-append from (m ∷ r) in
          let same : length (from ++ m ∷ r) ≡ length from = ap length there in
          let some : length (m ∷ r) ≡ suc (length r) = refl in
          absurd (omega arith)
      by m r (inr there) = true≢false (sym (below_from to from (m ∷ r) (sym there)) ∙ move.apart)

  moved_place : (s : PathOf) → place new (to ++ s) ≡ place old (from ++ s)
  moved_place s =
      walk_append new to s (Dir 0)
      ∙ ap (λ r. and_then r (walk_from new s)) (ap (place new) (sym move.room.again) ∙ below_place new (parent to) (last_part to) d above_to ∙ ap found_child move.here)
      ∙ same_below s
      ∙ sym (walk_append old from s (Dir 0) ∙ ap (λ r. and_then r (walk_from old s)) move.at)

  pub none_there : (names : Names) → StandsFor old names → NoneBelow to names
  none_there names stands = none_below to names (λ q below. sym (stands.found q) ∙ ap node_found (ap (place old) (below_rest q to below) ∙ absent_below (drop (length to) q)))

  pub moved_stands : (names : Names) → StandsFor old names → StandsFor new (with_moved names from to)
  moved_stands names stands = subst (StandsFor new) (sym (none_replaced from to names none)) (record { found = λ q. by q (is_below q to) refl; once = moved_each_once from to names none stands.once })
    where
      none : NoneBelow to names
      none = none_there names stands

      there : (q s : PathOf) → q ≡ to ++ s → node_in new q ≡ node_at (moved_all from to names) q
      there q s is =
          ap (node_in new) is ∙ ap node_found (moved_place s) ∙ stands.found (from ++ s)
          ∙ sym (moved_at from to (from ++ s) names none (below_from_off (from ++ s) (is_below-append from s)))
          ∙ ap (node_at (moved_all from to names)) (moved_below from to s ∙ sym is)

      gone_from : (q s : PathOf) → q ≡ from ++ s → is_below q from ≡ true → is_below q to ≡ false → node_in new q ≡ node_at (moved_all from to names) q
      gone_from q s is q_in q_off = ap (node_in new) is ∙ ap node_found (left_place s) ∙ sym (moved_left from to q names q_in q_off)

      away : (q : PathOf) → is_below q to ≡ false → (b : Bool) → is_below q from ≡ b → node_in new q ≡ node_at (moved_all from to names) q
      away q q_off true q_in = gone_from q (drop (length from) q) (below_rest q from q_in) q_in q_off
      away q q_off false q_out =
          ap node_found (same_place q q_out q_off) ∙ stands.found q ∙ sym (moved_at from to q names none q_off)
          ∙ ap (node_at (moved_all from to names)) (cond-false (is_below q from) (to ++ drop (length from) q) q q_out)

      by : (q : PathOf) (b : Bool) → is_below q to ≡ b → node_in new q ≡ node_at (moved_all from to names) q
      by q true q_in = there q (drop (length to) q) (below_rest q to q_in)
      by q false q_off = away q q_off (is_below q from) refl

  -- where a reference to a directory was before the move
  record WasAt (c k : ℕ) (m : List ℕ) : Type 0 where
    pub dir : ℕ
    pub name : List ℕ
    pub was : child_at old dir name ≡ Some (Dir k)
    pub now : ((c ≡ d) × (m ≡ last_part to) × (dir ≡ e) × (name ≡ last_part from)) ⊎ ((c ≡ dir) × (m ≡ name) × ((c ≡ e) × (m ≡ last_part from) → ⊥))

  was_at : (c k : ℕ) (m : List ℕ) → child_at new c m ≡ Some (Dir k) → WasAt c k m
  was_at c k m is = by (same_name d c (last_part to) m) (same_name e c (last_part from) m)
    where
      by : ((c ≡ d) × (m ≡ last_part to)) ⊎ ((c ≡ d) × (m ≡ last_part to) → ⊥) → ((c ≡ e) × (m ≡ last_part from)) ⊎ ((c ≡ e) × (m ≡ last_part from) → ⊥) → WasAt c k m
      by (inl both) other = record {
        dir = e;
        name = last_part from;
        was = move.left.found ∙ sym move.here ∙ ap (λ j. child_at new j (last_part to)) (sym both.0) ∙ ap (child_at new c) (sym both.1) ∙ is;
        now = inl (both.0, both.1, refl, refl);
      }
      by (inr apart) (inl both) = absurd (none-some (Dir k) (sym move.gone ∙ ap (λ j. child_at new j (last_part from)) (sym both.0) ∙ ap (child_at new c) (sym both.1) ∙ is))
      by (inr apart) (inr off_from) = record { dir = c; name = m; was = sym (move.others c m apart off_from) ∙ is; now = inr (refl, refl, off_from) }

  pub moved_tree : IsTree new
  moved_tree = record {
    root = move.known 0 move.tree.root;
    ascending = move.ascending;
    known = λ c k m is. let was : WasAt c k m = was_at c k m is in move.known k (move.tree.known was.dir k was.name was.was);
    top = λ c m is. let was : WasAt c 0 m = was_at c 0 m is in move.tree.top was.dir was.name was.was;
    once = λ b c k m o is also. by b c k m o (was_at b k m is) (was_at c k o also);
  }
    where
      by : (b c k : ℕ) (m o : List ℕ) → WasAt b k m → WasAt c k o → (b ≡ c) × (m ≡ o)
      by b c k m o one other = both one.now other.now (move.tree.once one.dir other.dir k one.name other.name one.was other.was)
        where
          both : ((b ≡ d) × (m ≡ last_part to) × (one.dir ≡ e) × (one.name ≡ last_part from)) ⊎ ((b ≡ one.dir) × (m ≡ one.name) × ((b ≡ e) × (m ≡ last_part from) → ⊥)) →
              ((c ≡ d) × (o ≡ last_part to) × (other.dir ≡ e) × (other.name ≡ last_part from)) ⊎ ((c ≡ other.dir) × (o ≡ other.name) × ((c ≡ e) × (o ≡ last_part from) → ⊥)) →
              (one.dir ≡ other.dir) × (one.name ≡ other.name) → (b ≡ c) × (m ≡ o)
          both (inl p) (inl q) same = (p.0 ∙ sym q.0, p.1 ∙ sym q.1)
          both (inl p) (inr q) same = absurd (q.2 (q.0 ∙ sym same.0 ∙ p.2, q.1 ∙ sym same.1 ∙ p.3))
          both (inr p) (inl q) same = absurd (p.2 (p.0 ∙ same.0 ∙ q.2, p.1 ∙ same.1 ∙ q.3))
          both (inr p) (inr q) same = (p.0 ∙ same.0 ∙ sym q.0, p.1 ∙ same.1 ∙ sym q.1)

-- ---- the answer

pub from_some : (from to : PathOf) → is_below to from ≡ false → length from ≡ 0 → ⊥
from_some [] to apart empty = true≢false (sym (below_from to [] to refl) ∙ apart)
from_some (part ∷ rest) to apart empty = let some : suc (length rest) ≡ 0 = empty in omega arith

pub room_some : (dirs : Dirs) (to : PathOf) (d : ℕ) → room_for dirs to ≡ Ok d → 0 < length to
room_some dirs [] d room = absurd cc
room_some dirs (part ∷ rest) d room = omega arith

pub moved_by : (s mid new : Slab Children) (from to : PathOf) (x : Child) (d e : ℕ) → IsTree s.slots → place s.slots from ≡ Ok x → is_below to from ≡ false → room_for s.slots to ≡ Ok d →
    place s.slots (parent from) ≡ Ok (Dir e) → mid ≡ with_value s d (insert_entry (slice_cmp nat_cmp) (children_at s.slots d) (last_part to) x) →
    new ≡ with_value mid e (remove_entry (bytes_eq (last_part from)) (children_at mid.slots e)) → child_at new.slots e (last_part from) ≡ None → Move s.slots new.slots from to x d e
moved_by s mid new from to x d e tree at apart found above mid_is new_is gone = record {
  tree = tree;
  at = at;
  apart = apart;
  room = room;
  left = left;
  gone = gone;
  here = two.others d (last_part to) not_both ∙ here_mid;
  others = λ c m off_to off_from. two.others c m off_from ∙ one.others c m off_to;
  known = λ c used. subst (λ slots. IsKnown slots c) new_slots (set_known mid.slots e c _ (keeps c used));
  ascending = λ c. subst (λ slots. Ascends (children_at slots c)) new_slots
      (set_ascends mid.slots e (remove_entry (bytes_eq (last_part from)) (children_at mid.slots e)) known_e mid_ascends (removed_ascends (last_part from) (children_at mid.slots e) (mid_ascends e)) c);
}
  where
    room : RoomAt s.slots to d
    room = room_found s.slots to d found

    left : At s.slots from e x
    left = at_is s.slots from e x (from_some from to apart) at above

    mid_slots : with_child s.slots d (last_part to) x ≡ mid.slots
    mid_slots = sym (ap (λ m. m.slots) mid_is)

    new_slots : without_child mid.slots e (last_part from) ≡ new.slots
    new_slots = sym (ap (λ m. m.slots) new_is)

    known_d : IsKnown s.slots d
    known_d = known_place s.slots tree (parent to) d room.above

    keeps : (c : ℕ) → IsKnown s.slots c → IsKnown mid.slots c
    keeps c used = subst (λ slots. IsKnown slots c) mid_slots (set_known s.slots d c _ used)

    known_e : IsKnown mid.slots e
    known_e = keeps e (known_place s.slots tree (parent from) e above)

    one : OneChanged s.slots mid.slots d (last_part to)
    one = subst (λ slots. OneChanged s.slots slots d (last_part to)) mid_slots (set_one s.slots d (last_part to) x known_d)

    two : OneChanged mid.slots new.slots e (last_part from)
    two = subst (λ slots. OneChanged mid.slots slots e (last_part from)) new_slots (unset_one mid.slots e (last_part from) known_e)

    here_mid : child_at mid.slots d (last_part to) ≡ Some x
    here_mid = ap (λ slots. child_at slots d (last_part to)) (sym mid_slots) ∙ child_set s.slots d (last_part to) x known_d

    not_both : (d ≡ e) × (last_part to ≡ last_part from) → ⊥
    not_both both = none-some x (sym room.new ∙ ap (λ k. child_at s.slots k (last_part to)) both.0 ∙ ap (child_at s.slots e) both.1 ∙ left.found)

    mid_ascends : (c : ℕ) → Ascends (children_at mid.slots c)
    mid_ascends c = subst (λ slots. Ascends (children_at slots c)) mid_slots (with_ascends s.slots d (last_part to) x tree known_d c)

-- the refusal, from what each test answers
refusal_is : (dirs : Dirs) (names : Names) → StandsFor dirs names → (from to : PathOf) (found : Result Child Reply) (b : Bool) → place dirs from ≡ found → is_below to from ≡ b →
    rename_refusal names from to ≡ or_else (refusal_of (found_as found)) (or_else (refuse_where b IntoItself) (or_else (refusal_of (room_for dirs to)) (refuse_where (is_too_deep names from to) TooDeep)))
refusal_is dirs names stands from to found b at below =
    ap (λ w. or_else (refusal_of w) (or_else (refuse_where (is_below to from) IntoItself) (or_else (new_refusal names to) (refuse_where (is_too_deep names from to) TooDeep))))
    (walk_same dirs names stands from ∙ ap found_as at)
    ∙ ap (λ t. or_else (refusal_of (found_as found)) (or_else (refuse_where t IntoItself) (or_else (new_refusal names to) (refuse_where (is_too_deep names from to) TooDeep)))) below
    ∙ ap (λ o. or_else (refusal_of (found_as found)) (or_else (refuse_where b IntoItself) (or_else o (refuse_where (is_too_deep names from to) TooDeep)))) (room_same dirs names stands to)

pub rename_unwalked : (dirs : Dirs) → IsTree dirs → (from to : PathOf) (r : Reply) → place dirs from ≡ Err r → (pins : PinList) (count : ℕ) → Answers (tables dirs pins) (tables dirs pins) count (Rename from to) r
rename_unwalked dirs tree from to r at pins count =
    kept_answers (tables dirs pins) count (Rename from to) r tree (walk_refuses dirs from (Dir 0) r at)
    (λ names stands. sym (ap (λ o. unless o Fine) (refusal_is dirs names stands from to (Err r) (is_below to from) at refl)))

pub rename_into_itself : (dirs : Dirs) → IsTree dirs → (from to : PathOf) (x : Child) → place dirs from ≡ Ok x → is_below to from ≡ true → (pins : PinList) (count : ℕ) →
    Answers (tables dirs pins) (tables dirs pins) count (Rename from to) IntoItself
rename_into_itself dirs tree from to x at below pins count =
    kept_answers (tables dirs pins) count (Rename from to) IntoItself tree refl (λ names stands. sym (ap (λ o. unless o Fine) (refusal_is dirs names stands from to (Ok x) true at below)))

pub rename_no_room : (dirs : Dirs) → IsTree dirs → (from to : PathOf) (x : Child) (r : Reply) → place dirs from ≡ Ok x → is_below to from ≡ false → room_for dirs to ≡ Err r → (pins : PinList) (count : ℕ) →
    Answers (tables dirs pins) (tables dirs pins) count (Rename from to) r
rename_no_room dirs tree from to x r at apart room pins count =
    kept_answers (tables dirs pins) count (Rename from to) r tree (room_refuses dirs to r room)
    (λ names stands. sym (ap (λ o. unless o Fine) (refusal_is dirs names stands from to (Ok x) false at apart ∙ ap (λ w. or_else (refusal_of w) (refuse_where (is_too_deep names from to) TooDeep)) room)))

pub rename_too_deep : (dirs : Dirs) → IsTree dirs → (from to : PathOf) (x : Child) (d b : ℕ) → place dirs from ≡ Ok x → is_below to from ≡ false → room_for dirs to ≡ Ok d → length to ≤ 16 → b ≡ bytes_of (parent to) → b ≤ 1024 →
    child_fits dirs (17 - length to) (1024 - b) (last_part to, x) ≡ false → (pins : PinList) (count : ℕ) → Answers (tables dirs pins) (tables dirs pins) count (Rename from to) TooDeep
rename_too_deep dirs tree from to x d b at apart room short is low fails pins count =
    kept_answers (tables dirs pins) count (Rename from to) TooDeep tree refl (λ names stands. sym (ap (λ o. unless o Fine)
    (refusal_is dirs names stands from to (Ok x) false at apart
    ∙ ap (λ w. or_else (refusal_of w) (refuse_where (is_too_deep names from to) TooDeep)) room
    ∙ ap (λ t. refuse_where t TooDeep) (is_deep dirs names tree stands from to x b at (room_some dirs to d room) short is low fails))))

moved_pins : (pins : PinList) (names : Names) (from to : PathOf) (count : ℕ) → NoneBelow to names → PinsStandFor pins names count → PinsStandFor pins (with_moved names from to) count
moved_pins pins names from to count none stand = subst (λ after. PinsStandFor pins after count) (sym (none_replaced from to names none)) (record {
  found = λ f. stand.found f
      ∙ ap (λ t. cond t (Some (list_any (pins_file f) names)) None) (sym (moved_any (is_file_node f) from to names))
      ∙ ap (λ t. cond (list_any (names_file f) (moved_all from to names)) (Some t) None) (sym (moved_any (is_pinned_node f) from to names));
  once = moved_files_once from to names stand.once;
  made = λ f named. stand.made f (sym (moved_any (is_file_node f) from to names) ∙ named);
})

pub rename_done : (old new : Dirs) (from to : PathOf) (x : Child) (d e b : ℕ) → Move old new from to x d e → room_for old to ≡ Ok d → length to ≤ 16 → b ≡ bytes_of (parent to) → b ≤ 1024 →
    child_fits old (17 - length to) (1024 - b) (last_part to, x) ≡ true → (pins : PinList) (count : ℕ) → Answers (tables old pins) (tables new pins) count (Rename from to) Fine
rename_done old new from to x d e b move room short is low fits pins count = record {
  said = λ names stands. sym (ap (λ o. unless o Fine)
      (refusal_is old names stands from to (Ok x) false move.at move.apart
      ∙ ap (λ w. or_else (refusal_of w) (refuse_where (is_too_deep names from to) TooDeep)) room
      ∙ ap (λ t. refuse_where t TooDeep) (not_deep old names stands from to x b move.at (room_some old to d room) short is low fits)));
  names = λ names stands. moved_stands old new from to x d e move names stands;
  pins = λ names stands stand. same_count pins (with_moved names from to) count [] refl (moved_pins pins names from to count (none_there old new from to x d e move names stands) stand);
  unchanged = λ no. absurd (true≢false no);
  tree = moved_tree old new from to x d e move;
}
