-- Walks and refusals by the tables are those by the names that they stand for.
use Rattle.std.proofs.Common.{◌≡◌, ℕ, suc, ◌-◌, cond, List, [], ◌∷◌, ◌++◌, length, take, Option, Some, None, Result, Ok, Err, is_some, refl, sym, ap, ◌∙◌, arith}
use Rattle.tl_model.specs.declared.reply.Reply.{Reply}
use Rattle.tl_model.specs.declared.reply.Reply.TheVariants.{Exists}
use Rattle.tl_model.specs.Namespace.{PathOf, Names, node_at, parent, last_part}
use Rattle.tl_model.specs.Replies.{Found, and_then, walk_on, walk, want_dir, refusal_of, or_else, refuse_where, new_refusal}
use Rattle.tl_names.specs.declared.child.Child.{Child}
use Rattle.tl_names.specs.declared.child.Child.TheVariants.{Dir, File}
use Rattle.tl_names.specs.Tables.{Dirs, child_at, found_child, walk_from, place, node_of, node_found, node_in, room_in, room_for}
use Rattle.tl_names.specs.Standing.{StandsFor}
use Rattle.tl_names.proofs.Places.{below_place}

-- what a walk finds, as the definitions say it
abbrev pub found_as : Result Child Reply → Found
found_as (Ok child) = Ok (node_of child)
found_as (Err refusal) = Err refusal

walk_on_same : (dirs : Dirs) (names : Names) → StandsFor dirs names → (at rest : PathOf) (c : Child) → place dirs at ≡ Ok c →
    walk_on names at (Some (node_of c)) rest ≡ found_as (walk_from dirs rest c)
walk_on_same dirs names stands at [] (Dir d) led = refl
walk_on_same dirs names stands at [] (File f pinned) led = refl
walk_on_same dirs names stands at (n ∷ rest) (File f pinned) led = refl
walk_on_same dirs names stands at (n ∷ rest) (Dir d) led =
    ap (λ o. walk_on names (at ++ n ∷ []) o rest) (sym (stands.found (at ++ n ∷ [])) ∙ ap node_found (below_place dirs at n d led))
    ∙ by (child_at dirs d n) refl (λ y found. walk_on_same dirs names stands (at ++ n ∷ []) rest y (below_place dirs at n d led ∙ ap found_child found))
  where
    by : (o : Option Child) → child_at dirs d n ≡ o →
        ((y : Child) → child_at dirs d n ≡ Some y → walk_on names (at ++ n ∷ []) (Some (node_of y)) rest ≡ found_as (walk_from dirs rest y)) →
        walk_on names (at ++ n ∷ []) (node_found (found_child o)) rest ≡ found_as (and_then (found_child o) (walk_from dirs rest))
    by None found more = refl
    by (Some y) found more = more y found

pub walk_same : (dirs : Dirs) (names : Names) → StandsFor dirs names → (path : PathOf) → walk names path ≡ found_as (place dirs path)
walk_same dirs names stands path =
    ap (λ o. walk_on names [] o path) (sym (stands.found [])) ∙ walk_on_same dirs names stands [] path (Dir 0) refl

-- a path is its parent with its last component
pub parts_again : (part : List ℕ) (rest : PathOf) → parent (part ∷ rest) ++ last_part (part ∷ rest) ∷ [] ≡ part ∷ rest
parts_again part [] = refl
parts_again part (next ∷ rest) =
    ap (λ k. take k (part ∷ next ∷ rest) ++ last_part (next ∷ rest) ∷ []) counted
    ∙ ap (λ more. part ∷ more) (ap (λ k. take k (next ∷ rest) ++ last_part (next ∷ rest) ∷ []) (sym front) ∙ parts_again next rest)
  where
    counted : length (part ∷ next ∷ rest) - 1 ≡ suc (length rest)
    counted = omega arith

    front : length (next ∷ rest) - 1 ≡ length rest
    front = omega arith

-- why no name can be made
pub room_same : (dirs : Dirs) (names : Names) → StandsFor dirs names → (path : PathOf) → new_refusal names path ≡ refusal_of (room_for dirs path)
room_same dirs names stands [] = refl
room_same dirs names stands (part ∷ rest) =
    ap (λ w. or_else (refusal_of (and_then w want_dir)) (refuse_where (is_some (node_at names (part ∷ rest))) Exists)) (walk_same dirs names stands (parent (part ∷ rest)))
    ∙ by (place dirs (parent (part ∷ rest))) refl
  where
    in_dir : (o : Option Child) (d : ℕ) → refuse_where (is_some (node_found (found_child o))) Exists ≡ refusal_of (cond (is_some o) (Err Exists) (Ok d))
    in_dir None d = refl
    in_dir (Some (Dir e)) d = refl
    in_dir (Some (File f pinned)) d = refl

    by : (r : Result Child Reply) → place dirs (parent (part ∷ rest)) ≡ r →
        or_else (refusal_of (and_then (found_as r) want_dir)) (refuse_where (is_some (node_at names (part ∷ rest))) Exists)
        ≡ refusal_of (and_then r (room_in dirs (last_part (part ∷ rest))))
    by (Err refusal) at = refl
    by (Ok (File f pinned)) at = refl
    by (Ok (Dir d)) at =
        ap (λ o. refuse_where (is_some o) Exists)
        (sym (stands.found (part ∷ rest)) ∙ ap (node_in dirs) (sym (parts_again part rest)) ∙ ap node_found (below_place dirs (parent (part ∷ rest)) (last_part (part ∷ rest)) d at))
        ∙ in_dir (child_at dirs d (last_part (part ∷ rest))) d
