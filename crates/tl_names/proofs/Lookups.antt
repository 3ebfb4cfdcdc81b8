-- What a path names after a change of the list of names.
use Rattle.std.proofs.Common.{◌≡◌, Bool, true, false, cond, [], ◌∷◌, Some, None, refl, sym, ap, ◌∙◌}
use Rattle.std.specs.Prelude.{not, ◌&&◌, filter, is_some, map}
use Rattle.std.specs.List.{AllByRecursion}
use Rattle.std.specs.Option.{option_map}
use Rattle.std.proofs.lemmas.Bool.{and_left, and_right, cond-false, true≢false}
use Rattle.std.proofs.lemmas.Option.{none-some}
use Rattle.tl_types.specs.Same.{path_same, path_same-Decides}
use Rattle.tl_model.specs.Namespace.{PathOf, Node, Names, is_below, is_replaced, moved, node_at, without_name, with_moved, with_pin, with_pinned}
use Rattle.tl_names.specs.Standing.{HasEachOnce}
use Rattle.tl_names.proofs.Below.{paths_apart}

-- ---- of two names where the first is not at the path

pub absent_head : (q : PathOf) (e : PathOf × Node) (es : Names) → node_at (e ∷ es) q ≡ None → (path_same q e.0 ≡ false) × (node_at es q ≡ None)
absent_head q e es absent = by (path_same q e.0) absent
  where
    by : (b : Bool) → cond b (Some e.1) (node_at es q) ≡ None → (b ≡ false) × (node_at es q ≡ None)
    by true found = absurd (none-some e.1 (sym found))
    by false found = (refl, found)

-- ---- a name taken away

pub without_here : (p : PathOf) (names : Names) → node_at (without_name names p) p ≡ None
without_here p [] = refl
without_here p (e ∷ es) = by (path_same p e.0) refl (without_here p es)
  where
    by : (b : Bool) → path_same p e.0 ≡ b → node_at (without_name es p) p ≡ None → node_at (cond (not b) (e ∷ without_name es p) (without_name es p)) p ≡ None
    by true at more = more
    by false at more = cond-false (path_same p e.0) (Some e.1) (node_at (without_name es p) p) at ∙ more

pub without_apart : (p q : PathOf) (names : Names) → (q ≡ p → ⊥) → node_at (without_name names p) q ≡ node_at names q
without_apart p q [] apart = refl
without_apart p q (e ∷ es) apart = by (path_same p e.0) refl (without_apart p q es apart)
  where
    by : (b : Bool) → path_same p e.0 ≡ b → node_at (without_name es p) q ≡ node_at es q →
        node_at (cond (not b) (e ∷ without_name es p) (without_name es p)) q ≡ node_at (e ∷ es) q
    by true at more =
        more ∙ sym (cond-false (path_same q e.0) (Some e.1) (node_at es q) (paths_apart q e.0 (λ same. apart (same ∙ sym ((path_same-Decides p e.0).0 at)))))
    by false at more = ap (cond (path_same q e.0) (Some e.1)) more

without_absent : (p q : PathOf) (names : Names) → node_at names q ≡ None → node_at (without_name names p) q ≡ None
without_absent p q names absent = by (path_same q p) refl
  where
    by : (b : Bool) → path_same q p ≡ b → node_at (without_name names p) q ≡ None
    by true same = ap (node_at (without_name names p)) ((path_same-Decides q p).0 same) ∙ without_here p names
    by false apart = without_apart p q names (λ same. true≢false (sym ((path_same-Decides q p).1 same) ∙ apart)) ∙ absent

pub without_once : (p : PathOf) (names : Names) → HasEachOnce names → HasEachOnce (without_name names p)
without_once p [] once = tt
without_once p (e ∷ es) once = by (path_same p e.0) (without_once p es once.1)
  where
    by : (b : Bool) → HasEachOnce (without_name es p) → HasEachOnce (cond (not b) (e ∷ without_name es p) (without_name es p))
    by true more = more
    by false more = (without_absent p e.0 es once.0, more)

-- where nothing has the path none is taken away
pub without_none : (p : PathOf) (names : Names) → node_at names p ≡ None → without_name names p ≡ names
without_none p [] absent = refl
without_none p (e ∷ es) absent =
    let parts : (path_same p e.0 ≡ false) × (node_at es p ≡ None) = absent_head p e es absent in
    ap (λ b. cond (not b) (e ∷ without_name es p) (without_name es p)) parts.0 ∙ ap (λ rest. e ∷ rest) (without_none p es parts.1)

-- ---- names moved

-- each pair with its path moved
abbrev pub moved_all : PathOf → PathOf → Names → Names
moved_all from to names = map (λ entry. (moved from to entry.0, entry.1)) names

abbrev pub NoneBelow : PathOf → Names → Type 0
NoneBelow to names = AllByRecursion (λ e. is_below e.0 to ≡ false) names

not_replaced : (from to p : PathOf) (all : Names) → is_below p to ≡ false → is_replaced all from to p ≡ false
not_replaced from to p all off =
    and_left (not (is_below p from) && is_below p to) (is_some (node_at all (moved to from p))) (and_right (not (is_below p from)) (is_below p to) off)

none_taken : (from to : PathOf) (all es : Names) → NoneBelow to es → filter (λ entry. not (is_replaced all from to entry.0)) es ≡ es
none_taken from to all [] none = refl
none_taken from to all (e ∷ es) none =
    let rest : Names = filter (λ entry. not (is_replaced all from to entry.0)) es in
    ap (λ b. cond (not b) (e ∷ rest) rest) (not_replaced from to e.0 all none.0) ∙ ap (λ rest. e ∷ rest) (none_taken from to all es none.1)

-- where nothing stands at the new place or below it no pair is replaced
pub none_replaced : (from to : PathOf) (names : Names) → NoneBelow to names → with_moved names from to ≡ moved_all from to names
none_replaced from to names none = ap (moved_all from to) (none_taken from to names names none)

-- ---- a pin set or cleared

pub pinned_here : (p : PathOf) (pinned : Bool) (names : Names) → node_at (with_pinned names p pinned) p ≡ option_map (with_pin pinned) (node_at names p)
pinned_here p pinned [] = refl
pinned_here p pinned (e ∷ es) = by (path_same p e.0) (pinned_here p pinned es)
  where
    by : (b : Bool) → node_at (with_pinned es p pinned) p ≡ option_map (with_pin pinned) (node_at es p) →
        cond b (Some (cond b (with_pin pinned e.1) e.1)) (node_at (with_pinned es p pinned) p) ≡ option_map (with_pin pinned) (cond b (Some e.1) (node_at es p))
    by true more = refl
    by false more = more

pub pinned_apart : (p q : PathOf) (pinned : Bool) (names : Names) → (q ≡ p → ⊥) → node_at (with_pinned names p pinned) q ≡ node_at names q
pinned_apart p q pinned [] apart = refl
pinned_apart p q pinned (e ∷ es) apart = by (path_same p e.0) refl (pinned_apart p q pinned es apart)
  where
    by : (b : Bool) → path_same p e.0 ≡ b → node_at (with_pinned es p pinned) q ≡ node_at es q →
        cond (path_same q e.0) (Some (cond b (with_pin pinned e.1) e.1)) (node_at (with_pinned es p pinned) q) ≡ node_at (e ∷ es) q
    by true at more =
        let there : path_same q e.0 ≡ false = paths_apart q e.0 (λ same. apart (same ∙ sym ((path_same-Decides p e.0).0 at))) in
        cond-false (path_same q e.0) (Some (with_pin pinned e.1)) (node_at (with_pinned es p pinned) q) there ∙ more
        ∙ sym (cond-false (path_same q e.0) (Some e.1) (node_at es q) there)
    by false at more = ap (cond (path_same q e.0) (Some e.1)) more

pinned_absent : (p q : PathOf) (pinned : Bool) (names : Names) → node_at names q ≡ None → node_at (with_pinned names p pinned) q ≡ None
pinned_absent p q pinned [] absent = refl
pinned_absent p q pinned (e ∷ es) absent =
    let parts : (path_same q e.0 ≡ false) × (node_at es q ≡ None) = absent_head q e es absent in
    cond-false (path_same q e.0) (Some (cond (path_same p e.0) (with_pin pinned e.1) e.1)) (node_at (with_pinned es p pinned) q) parts.0
    ∙ pinned_absent p q pinned es parts.1

pub pinned_once : (p : PathOf) (pinned : Bool) (names : Names) → HasEachOnce names → HasEachOnce (with_pinned names p pinned)
pinned_once p pinned [] once = tt
pinned_once p pinned (e ∷ es) once = (pinned_absent p e.0 pinned es once.0, pinned_once p pinned es once.1)
