-- The directory for a new name, and the slots in use.
use Rattle.std.proofs.Common.{◌≡◌, ℕ, suc, ◌+◌, ◌-◌, ◌<◌, ◌≤◌, cond, List, [], ◌∷◌, ◌++◌, length, get_or, Option, Some, None, is_some, Result, Ok, Err, refl, sym, ap, ◌∙◌, inl, inr, ◌⊎◌, arith}
use Rattle.std.specs.Prelude.{count_by, slice_get, slice_set}
use Rattle.std.proofs.lemmas.Bool.{cases_lt, false≢true}
use Rattle.std.proofs.lemmas.List.{get_or_past}
use Rattle.std.proofs.lemmas.List.Sums.{sum_by-set}
use Rattle.std.proofs.lemmas.Option.{get_or_from_slice_get}
use Rattle.tl_model.specs.declared.reply.Reply.{Reply}
use Rattle.tl_model.specs.declared.reply.Reply.TheVariants.{Exists}
use Rattle.tl_model.specs.Namespace.{PathOf, parent, last_part}
use Rattle.tl_model.specs.Replies.{and_then}
use Rattle.tl_names.specs.declared.child.Child.{Child}
use Rattle.tl_names.specs.declared.child.Child.TheVariants.{Dir, File}
use Rattle.tl_names.specs.Tables.{Children, Dirs, child_at, place, room_in, room_for, IsKnown, IsTree}
use Rattle.tl_names.proofs.Places.{known_place}
use Rattle.tl_names.proofs.Replied.{parts_again}

pub room_at : (dirs : Dirs) (path : PathOf) → (length path ≡ 0 → ⊥) → room_for dirs path ≡ and_then (place dirs (parent path)) (room_in dirs (last_part path))
room_at dirs [] some = absurd (some refl)
room_at dirs (part ∷ rest) some = refl

-- the last component, read by its place
last_read : (path : PathOf) → get_or path (length path - 1) [] ≡ last_part path
last_read [] = refl
last_read (part ∷ []) = refl
last_read (part ∷ next ∷ rest) = ap (λ k. get_or (part ∷ next ∷ rest) k []) counted ∙ ap (λ k. get_or (next ∷ rest) k []) (sym front) ∙ last_read (next ∷ rest)
  where
    counted : length (part ∷ next ∷ rest) - 1 ≡ suc (length rest)
    counted = omega arith

    front : length (next ∷ rest) - 1 ≡ length rest
    front = omega arith

pub last_is : (path : PathOf) (part : List ℕ) → slice_get path (length path - 1) ≡ Some part → part ≡ last_part path
last_is path part found = sym (get_or_from_slice_get path (length path - 1) part [] found) ∙ last_read path

-- what is known of the directory for a new name
pub record RoomAt (dirs : Dirs) (path : PathOf) (d : ℕ) : Type 0 where
  pub above : place dirs (parent path) ≡ Ok (Dir d)
  pub new : child_at dirs d (last_part path) ≡ None
  pub again : parent path ++ last_part path ∷ [] ≡ path

pub room_found : (dirs : Dirs) (path : PathOf) (d : ℕ) → room_for dirs path ≡ Ok d → RoomAt dirs path d
room_found dirs [] d is = absurd cc
room_found dirs (part ∷ rest) d is = by (place dirs (parent (part ∷ rest))) refl is
  where
    in_dir : (o : Option Child) (e : ℕ) → cond {A = Result ℕ Reply} (is_some o) (Err Exists) (Ok e) ≡ Ok d → (o ≡ None) × (e ≡ d)
    in_dir None e led = (refl, cc)
    in_dir (Some y) e led = absurd cc

    by : (r : Result Child Reply) → place dirs (parent (part ∷ rest)) ≡ r → and_then r (room_in dirs (last_part (part ∷ rest))) ≡ Ok d → RoomAt dirs (part ∷ rest) d
    by (Err e) at led = absurd cc
    by (Ok (File f pinned)) at led = absurd cc
    by (Ok (Dir e)) at led =
        let parts : (child_at dirs e (last_part (part ∷ rest)) ≡ None) × (e ≡ d) = in_dir (child_at dirs e (last_part (part ∷ rest))) e led in
        record {
          above = at ∙ ap (λ k. Ok (Dir k)) parts.1;
          new = ap (λ k. child_at dirs k (last_part (part ∷ rest))) (sym parts.1) ∙ parts.0;
          again = parts_again part rest;
        }

pub room_known : (dirs : Dirs) → IsTree dirs → (path : PathOf) (d : ℕ) → room_for dirs path ≡ Ok d → IsKnown dirs d
room_known dirs tree path d is = known_place dirs tree (parent path) d (room_found dirs path d is).above

-- ---- the names of a directory replaced

pub known_within : (dirs : Dirs) (d : ℕ) → IsKnown dirs d → d < length dirs
known_within dirs d known = by (cases_lt d (length dirs))
  where
    by : (d < length dirs) ⊎ (length dirs ≤ d) → d < length dirs
    by (inl below) = below
    by (inr past) = absurd (false≢true (sym (ap is_some (get_or_past dirs d None past)) ∙ known))

-- a slot in use that is replaced is still in use
pub count_kept : (dirs : Dirs) (d : ℕ) (names : Children) → IsKnown dirs d → count_by is_some (slice_set dirs d (Some names)) ≡ count_by is_some dirs
count_kept dirs d names known =
    let changed : count_by is_some (slice_set dirs d (Some names)) + cond {A = ℕ} (is_some (get_or dirs d None)) 1 0 ≡ count_by is_some dirs + 1
    = sum_by-set (λ slot. cond {A = ℕ} (is_some slot) 1 0) dirs d (Some names) None (known_within dirs d known) in
    let one : cond {A = ℕ} (is_some (get_or dirs d None)) 1 0 ≡ 1 = ap (λ b. cond {A = ℕ} b 1 0) known in
    omega arith
