-- One name in one directory changes: what each path names then.
use Rattle.std.proofs.Common.{◌≡◌, ℕ, ◌<◌, Bool, true, false, List, [], ◌∷◌, ◌++◌, length, drop, Option, None, Ok, refl, sym, ap, ◌∙◌, arith, append-nil}
use Rattle.tl_model.specs.Namespace.{PathOf, is_below}
use Rattle.tl_model.specs.Replies.{and_then}
use Rattle.tl_names.specs.declared.child.Child.{Child}
use Rattle.tl_names.specs.declared.child.Child.TheVariants.{Dir}
use Rattle.tl_names.specs.Tables.{Dirs, child_at, found_child, walk_from, place, node_found, node_in, IsTree}
use Rattle.tl_names.proofs.Below.{below_rest, not_below, front_short}
use Rattle.tl_names.proofs.Places.{SameOff, same_walk, unique_path, walk_append, below_place}

-- every other name stands for what it did
pub record OneChanged (old new : Dirs) (d : ℕ) (n : List ℕ) : Type 0 where
  pub others : (e : ℕ) (m : List ℕ) → ((e ≡ d) × (m ≡ n) → ⊥) → child_at new e m ≡ child_at old e m

pub off_one : (old new : Dirs) (above : PathOf) (d : ℕ) (n : List ℕ) → IsTree old → place old above ≡ Ok (Dir d) → OneChanged old new d n →
    SameOff old new (λ path. path ≡ above ++ n ∷ [])
off_one old new above d n tree at one = record {
  child = λ p e m led free. one.others e m (λ both.
      free (ap (λ q. q ++ m ∷ []) (unique_path old tree p above d (led ∙ ap (λ k. Ok (Dir k)) both.0) at) ∙ ap (λ k. above ++ k ∷ []) both.1));
}

-- nothing lies below
pub record IsLeaf (dirs : Dirs) (o : Option Child) : Type 0 where
  pub nothing : (m : List ℕ) (rest : PathOf) → node_found (and_then (found_child o) (walk_from dirs (m ∷ rest))) ≡ None

pub record LeafChanged (old new : Dirs) (path : PathOf) (o : Option Child) : Type 0 where
  pub here : node_in new path ≡ node_found (found_child o)
  pub others : (q : PathOf) → (q ≡ path → ⊥) → node_in new q ≡ node_in old q

-- the directory above the change is where it was
pub above_stays : (old new : Dirs) (above : PathOf) (d : ℕ) (n : List ℕ) → place old above ≡ Ok (Dir d) → SameOff old new (λ path. path ≡ above ++ n ∷ []) →
    place new above ≡ Ok (Dir d)
above_stays old new above d n at off =
    same_walk old new (λ path. path ≡ above ++ n ∷ []) off [] above (Dir 0) refl
    (λ m r s is touched. let short : length above < length above = front_short above m r s n above is touched in omega arith)
    ∙ at

pub leaf_changed : (old new : Dirs) (above : PathOf) (d : ℕ) (n : List ℕ) → IsTree old → place old above ≡ Ok (Dir d) → OneChanged old new d n →
    IsLeaf old (child_at old d n) → IsLeaf new (child_at new d n) → LeafChanged old new (above ++ n ∷ []) (child_at new d n)
leaf_changed old new above d n tree at one was_leaf leaf =
    record {
      here = ap node_found (below_place new above n d stays);
      others = λ q apart. by q apart (is_below q (above ++ n ∷ [])) refl;
    }
  where
    off : SameOff old new (λ path. path ≡ above ++ n ∷ [])
    off = off_one old new above d n tree at one

    stays : place new above ≡ Ok (Dir d)
    stays = above_stays old new above d n at off

    under : (dirs : Dirs) (m : List ℕ) (rest : PathOf) → place dirs above ≡ Ok (Dir d) → IsLeaf dirs (child_at dirs d n) → node_in dirs ((above ++ n ∷ []) ++ m ∷ rest) ≡ None
    under dirs m rest led empty =
        ap node_found (walk_append dirs (above ++ n ∷ []) (m ∷ rest) (Dir 0) ∙ ap (λ r. and_then r (walk_from dirs (m ∷ rest))) (below_place dirs above n d led))
        ∙ empty.nothing m rest

    deeper : (q rest : PathOf) → q ≡ (above ++ n ∷ []) ++ rest → (q ≡ above ++ n ∷ [] → ⊥) → node_in new q ≡ node_in old q
    deeper q [] is apart = absurd (apart (is ∙ append-nil (above ++ n ∷ [])))
    deeper q (m ∷ rest) is apart = ap (node_in new) is ∙ under new m rest stays leaf ∙ sym (under old m rest at was_leaf) ∙ ap (node_in old) (sym is)

    by : (q : PathOf) → (q ≡ above ++ n ∷ [] → ⊥) → (b : Bool) → is_below q (above ++ n ∷ []) ≡ b → node_in new q ≡ node_in old q
    by q apart true below = deeper q (drop (length (above ++ n ∷ [])) q) (below_rest q (above ++ n ∷ []) below) apart
    by q apart false below =
        ap node_found (same_walk old new (λ path. path ≡ above ++ n ∷ []) off [] q (Dir 0) refl
        (λ m r s is touched. not_below q (above ++ n ∷ []) below s (is ∙ ap (λ front. front ++ s) touched)))
