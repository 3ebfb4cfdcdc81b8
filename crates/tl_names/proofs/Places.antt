-- Where paths lead in the tree of directories, and what a change of some names leaves as it was.
use Rattle.std.proofs.Common.{◌≡◌, ℕ, List, [], ◌∷◌, ◌++◌, Option, Some, None, Result, Ok, Err, refl, sym, ap, ◌∙◌, subst, append_assoc}
use Rattle.std.specs.Prelude.{reverse}
use Rattle.std.proofs.lemmas.List.{reverse-reverse}
use mathlib.Core.List.{reverse-cons}
use Rattle.tl_model.specs.declared.reply.Reply.{Reply}
use Rattle.tl_model.specs.Namespace.{PathOf}
use Rattle.tl_model.specs.Replies.{and_then}
use Rattle.tl_names.specs.declared.child.Child.{Child}
use Rattle.tl_names.specs.declared.child.Child.TheVariants.{Dir, File}
use Rattle.tl_names.specs.Tables.{Dirs, child_at, found_child, step, walk_from, place, IsKnown, IsTree}

-- ---- a walk in two parts

pub walk_append : (dirs : Dirs) (p q : PathOf) (c : Child) → walk_from dirs (p ++ q) c ≡ and_then (walk_from dirs p c) (walk_from dirs q)
walk_append dirs [] q c = refl
walk_append dirs (n ∷ p) q c = by (step dirs n c) (walk_append dirs p q)
  where
    by : (r : Result Child Reply) → ((d : Child) → walk_from dirs (p ++ q) d ≡ and_then (walk_from dirs p d) (walk_from dirs q)) →
        and_then r (walk_from dirs (p ++ q)) ≡ and_then (and_then r (walk_from dirs p)) (walk_from dirs q)
    by (Ok d) more = more d
    by (Err e) more = refl

-- the last step to what a path names
pub record LastStep (dirs : Dirs) (p : PathOf) (n : List ℕ) (x : Child) : Type 0 where
  pub above : ℕ
  pub at : place dirs p ≡ Ok (Dir above)
  pub found : child_at dirs above n ≡ Some x

in_child : (dirs : Dirs) (o : Option Child) (x : Child) → and_then (found_child o) (walk_from dirs []) ≡ Ok x → o ≡ Some x
in_child dirs None x is = cc
in_child dirs (Some y) x is = cc

pub last_step : (dirs : Dirs) (p : PathOf) (n : List ℕ) (x : Child) → place dirs (p ++ n ∷ []) ≡ Ok x → LastStep dirs p n x
last_step dirs p n x is = by (place dirs p) refl (sym (walk_append dirs p (n ∷ []) (Dir 0)) ∙ is)
  where
    by : (r : Result Child Reply) → place dirs p ≡ r → and_then r (walk_from dirs (n ∷ [])) ≡ Ok x → LastStep dirs p n x
    by (Err e) at led = absurd cc
    by (Ok (File f pinned)) at led = absurd cc
    by (Ok (Dir d)) at led = record { above = d; at = at; found = in_child dirs (child_at dirs d n) x led }

-- one step below a directory
pub below_place : (dirs : Dirs) (p : PathOf) (n : List ℕ) (d : ℕ) → place dirs p ≡ Ok (Dir d) → place dirs (p ++ n ∷ []) ≡ found_child (child_at dirs d n)
below_place dirs p n d at = walk_append dirs p (n ∷ []) (Dir 0) ∙ ap (λ r. and_then r (walk_from dirs (n ∷ []))) at ∙ by (child_at dirs d n)
  where
    by : (o : Option Child) → and_then (found_child o) (walk_from dirs []) ≡ found_child o
    by None = refl
    by (Some y) = refl

-- ---- one path to each directory

unique_up : (dirs : Dirs) → IsTree dirs → (r s : PathOf) (d : ℕ) → place dirs (reverse r) ≡ Ok (Dir d) → place dirs (reverse s) ≡ Ok (Dir d) → r ≡ s
unique_up dirs tree [] [] d at also = refl
unique_up dirs tree [] (m ∷ s) d at also =
    let last : LastStep dirs (reverse s) m (Dir d) = last_step dirs (reverse s) m (Dir d) (ap (place dirs) (sym (reverse-cons m s)) ∙ also) in
    let zero_is : Dir 0 ≡ Dir d = cc in
    absurd (tree.top last.above m (last.found ∙ ap Some (sym zero_is)))
unique_up dirs tree (n ∷ r) [] d at also =
    let last : LastStep dirs (reverse r) n (Dir d) = last_step dirs (reverse r) n (Dir d) (ap (place dirs) (sym (reverse-cons n r)) ∙ at) in
    let zero_is : Dir 0 ≡ Dir d = cc in
    absurd (tree.top last.above n (last.found ∙ ap Some (sym zero_is)))
unique_up dirs tree (n ∷ r) (m ∷ s) d at also =
    let one : LastStep dirs (reverse r) n (Dir d) = last_step dirs (reverse r) n (Dir d) (ap (place dirs) (sym (reverse-cons n r)) ∙ at) in
    let other : LastStep dirs (reverse s) m (Dir d) = last_step dirs (reverse s) m (Dir d) (ap (place dirs) (sym (reverse-cons m s)) ∙ also) in
    let same : (one.above ≡ other.above) × (n ≡ m) = tree.once one.above other.above d n m one.found other.found in
    let rest : r ≡ s = unique_up dirs tree r s one.above one.at (other.at ∙ ap (λ e. Ok (Dir e)) (sym same.0)) in
    cc

pub unique_path : (dirs : Dirs) → IsTree dirs → (p q : PathOf) (d : ℕ) → place dirs p ≡ Ok (Dir d) → place dirs q ≡ Ok (Dir d) → p ≡ q
unique_path dirs tree p q d at also =
    sym (reverse-reverse p)
    ∙ ap reverse (unique_up dirs tree (reverse p) (reverse q) d (ap (place dirs) (reverse-reverse p) ∙ at) (ap (place dirs) (reverse-reverse q) ∙ also))
    ∙ reverse-reverse q

abbrev number : Child → ℕ
number (Dir e) = e
number (File f pinned) = 0

-- a directory that a path names is in use
pub known_place : (dirs : Dirs) → IsTree dirs → (p : PathOf) (d : ℕ) → place dirs p ≡ Ok (Dir d) → IsKnown dirs d
known_place dirs tree p d at = by (reverse p) (ap (place dirs) (reverse-reverse p) ∙ at)
  where
    by : (r : PathOf) → place dirs (reverse r) ≡ Ok (Dir d) → IsKnown dirs d
    by [] at_top = let zero_is : Dir 0 ≡ Dir d = cc in subst (λ c. IsKnown dirs (number c)) zero_is tree.root
    by (n ∷ r) led =
        let last : LastStep dirs (reverse r) n (Dir d) = last_step dirs (reverse r) n (Dir d) (ap (place dirs) (sym (reverse-cons n r)) ∙ led) in
        tree.known last.above d n last.found

-- ---- a change of some names

-- the names in each directory are as before, but at the paths that were touched
pub record SameOff (old new : Dirs) (Touched : PathOf → Type 0) : Type 0 where
  pub child : (p : PathOf) (d : ℕ) (n : List ℕ) → place old p ≡ Ok (Dir d) → (Touched (p ++ n ∷ []) → ⊥) → child_at new d n ≡ child_at old d n

-- a walk that meets no touched path leads where it led
pub same_walk : (old new : Dirs) (Touched : PathOf → Type 0) → SameOff old new Touched → (pre q : PathOf) (x : Child) → place old pre ≡ Ok x →
    ((m : List ℕ) (r s : PathOf) → q ≡ m ∷ r ++ s → Touched (pre ++ m ∷ r) → ⊥) → walk_from new q x ≡ walk_from old q x
same_walk old new Touched same pre [] x at free = refl
same_walk old new Touched same pre (n ∷ rest) (File f pinned) at free = refl
same_walk old new Touched same pre (n ∷ rest) (Dir d) at free =
    ap (λ o. and_then (found_child o) (walk_from new rest)) (same.child pre d n at (free n [] rest refl))
    ∙ by (child_at old d n) refl (λ y found. same_walk old new Touched same (pre ++ n ∷ []) rest y (below_place old pre n d at ∙ ap found_child found)
    (λ m r s is touched. free n (m ∷ r) s (ap (λ more. n ∷ more) is) (subst Touched (append_assoc pre (n ∷ []) (m ∷ r)) touched)))
  where
    by : (o : Option Child) → child_at old d n ≡ o → ((y : Child) → child_at old d n ≡ Some y → walk_from new rest y ≡ walk_from old rest y) →
        and_then (found_child o) (walk_from new rest) ≡ and_then (found_child o) (walk_from old rest)
    by None found more = refl
    by (Some y) found more = more y found
