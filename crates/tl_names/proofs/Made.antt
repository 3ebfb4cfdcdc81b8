-- A name is made, for a file or for a new directory.
use Rattle.std.proofs.Common.{◌≡◌, ℕ, Bool, List, [], ◌∷◌, ◌++◌, Some, None, is_some, Ok, refl, sym, ap, ◌∙◌, subst}
use Rattle.std.specs.Prelude.{unwrap_or}
use Rattle.std.specs.Map.{lookup}
use Rattle.std.specs.Str.{bytes_eq}
use Rattle.std.proofs.lemmas.Bool.{false≢true}
use Rattle.tl_types.specs.declared.file_id.FileId.{FileId}
use Rattle.tl_model.specs.Namespace.{PathOf, Node, dir, file, Names, node_at, parent, last_part, with_name}
use Rattle.tl_names.specs.declared.child.Child.{Child}
use Rattle.tl_names.specs.declared.child.Child.TheVariants.{Dir, File}
use Rattle.tl_names.specs.Tables.{Dirs, children_at, child_at, found_child, node_of, node_found, node_in, place, put_in, put_at, room_for, with_child, IsKnown, IsTree, MakesDir}
use Rattle.tl_names.specs.Standing.{StandsFor}
use Rattle.tl_names.proofs.Ascending.{Ascends}
use Rattle.tl_names.proofs.Changes.{OneChanged, IsLeaf, LeafChanged, leaf_changed}
use Rattle.tl_names.proofs.Kept.{NamesChanged, child_set, empty_leaf, file_leaf, name_added, no_leaf, set_one, stands_changed, with_ascends}
use Rattle.tl_names.proofs.Places.{below_place, known_place}
use Rattle.tl_names.proofs.Rooms.{RoomAt, room_found}
use Rattle.tl_names.proofs.Trees.{set_apart, set_known, tree_changed}

-- the tables follow a new name
pub record Makes (old new : Dirs) (path : PathOf) (node : Node) : Type 0 where
  pub tree : IsTree new
  pub free : (names : Names) → StandsFor old names → node_at names path ≡ None
  pub stands : (names : Names) → StandsFor old names → StandsFor new (with_name names path node)

-- where there is room for a name none stands
pub room_free : (dirs : Dirs) (path : PathOf) (d : ℕ) → RoomAt dirs path d → (names : Names) → StandsFor dirs names → node_at names path ≡ None
room_free dirs path d room names stands =
    sym (stands.found path) ∙ ap (node_in dirs) (sym room.again)
    ∙ ap node_found (below_place dirs (parent path) (last_part path) d room.above ∙ ap found_child room.new)

new_leaf : (old new : Dirs) (above path : PathOf) (d : ℕ) (n : List ℕ) (x : Child) → IsTree old → place old above ≡ Ok (Dir d) → above ++ n ∷ [] ≡ path →
    OneChanged old new d n → child_at old d n ≡ None → child_at new d n ≡ Some x → IsLeaf new (Some x) →
    (names : Names) → StandsFor old names → StandsFor new (with_name names path (node_of x))
new_leaf old new above path d n x tree at again one was is leaf names stands =
    stands_changed old new names (with_name names path (node_of x)) path (child_at new d n) stands
    (subst (λ p. LeafChanged old new p (child_at new d n)) again
    (leaf_changed old new above d n tree at one (subst (IsLeaf old) (sym was) (no_leaf old)) (subst (IsLeaf new) (sym is) leaf)))
    (subst (λ o. NamesChanged names (with_name names path (node_of x)) path (node_found (found_child o))) (sym is) (name_added names path (node_of x) stands.once))

put_there : (dirs : Dirs) (path : PathOf) (d : ℕ) (x : Child) → place dirs (parent path) ≡ Ok (Dir d) → put_at dirs path x ≡ with_child dirs d (last_part path) x
put_there dirs path d x at = ap (put_in dirs (last_part path) x) at

pub file_makes : (dirs : Dirs) → IsTree dirs → (path : PathOf) (d : ℕ) (f : FileId) (b : Bool) → RoomAt dirs path d → Makes dirs (with_child dirs d (last_part path) (File f b)) path (file f b)
file_makes dirs tree path d f b room = record {
  tree = tree_changed dirs new d (last_part path) tree one (λ e known. set_known dirs d e _ known) (with_ascends dirs d (last_part path) (File f b) tree known)
      (record { known = λ k is. absurd (not_dir k (sym here ∙ is)); below = λ is. not_dir 0 (sym here ∙ is); alone = λ c k m is apart also. not_dir k (sym here ∙ is) });
  free = room_free dirs path d room;
  stands = λ names stands. new_leaf dirs new (parent path) path d (last_part path) (File f b) tree room.above room.again one room.new here (file_leaf new (File f b) (Some (File f b)) refl (λ k is. cc)) names stands;
}
  where
    known : IsKnown dirs d
    known = known_place dirs tree (parent path) d room.above

    new : Dirs
    new = with_child dirs d (last_part path) (File f b)

    one : OneChanged dirs new d (last_part path)
    one = set_one dirs d (last_part path) (File f b) known

    here : child_at new d (last_part path) ≡ Some (File f b)
    here = child_set dirs d (last_part path) (File f b) known

    not_dir : (k : ℕ) → Some (File f b) ≡ Some (Dir k) → ⊥
    not_dir k is = cc

-- a file gets a name
pub makes_file : (dirs : Dirs) → IsTree dirs → (path : PathOf) (d : ℕ) (f : FileId) (b : Bool) → room_for dirs path ≡ Ok d → Makes dirs (put_at dirs path (File f b)) path (file f b)
makes_file dirs tree path d f b found =
    let room : RoomAt dirs path d = room_found dirs path d found in
    subst (λ new. Makes dirs new path (file f b)) (sym (put_there dirs path d (File f b) room.above)) (file_makes dirs tree path d f b room)

-- a new directory gets a name
pub makes_dir : (old new : Dirs) → IsTree old → (path : PathOf) (d : ℕ) → room_for old path ≡ Ok d → MakesDir old new path → Makes old new path dir
makes_dir old new tree path d found made = record {
  tree = tree_changed old new d (last_part path) tree one (λ e known. made.known e (subst (λ dirs. IsKnown dirs e) (sym there) (set_known old d e _ known)))
      (λ e. subst (λ cs. Ascends cs) (sym (same e)) (with_ascends old d (last_part path) (Dir made.number) tree known e))
      (record {
        known = λ k is. subst (IsKnown new) (dir_is k (sym here ∙ is)) made.made;
        below = λ is. vacant (subst (IsKnown old) (sym (dir_is 0 (sym here ∙ is))) tree.root);
        alone = λ c k m is apart also. vacant (subst (IsKnown old) (sym (dir_is k (sym here ∙ is))) (tree.known c k m also));
      });
  free = room_free old path d room;
  stands = λ names stands. new_leaf old new (parent path) path d (last_part path) (Dir made.number) tree room.above room.again one room.new here (empty_leaf new made.number empty) names stands;
}
  where
    room : RoomAt old path d
    room = room_found old path d found

    known : IsKnown old d
    known = known_place old tree (parent path) d room.above

    mid : Dirs
    mid = with_child old d (last_part path) (Dir made.number)

    there : put_at old path (Dir made.number) ≡ mid
    there = put_there old path d (Dir made.number) room.above

    same : (e : ℕ) → children_at new e ≡ children_at mid e
    same e = made.names e ∙ ap (λ dirs. children_at dirs e) there

    one : OneChanged old new d (last_part path)
    one = record { others = λ e m apart. ap (lookup (bytes_eq m)) (same e) ∙ (set_one old d (last_part path) (Dir made.number) known).others e m apart }

    here : child_at new d (last_part path) ≡ Some (Dir made.number)
    here = ap (lookup (bytes_eq (last_part path))) (same d) ∙ child_set old d (last_part path) (Dir made.number) known

    dir_is : (k : ℕ) → Some (Dir made.number) ≡ Some (Dir k) → made.number ≡ k
    dir_is k is = cc

    vacant : IsKnown old made.number → ⊥
    vacant in_use = false≢true (sym (ap is_some made.was_vacant) ∙ in_use)

    empty : children_at new made.number ≡ []
    empty =
        same made.number
        ∙ set_apart old d made.number _ (λ is. vacant (subst (IsKnown old) (sym is) known))
        ∙ ap (λ o. unwrap_or o []) made.was_vacant
