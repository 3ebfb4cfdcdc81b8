-- The outputs of a record get their names one after the other.
use Rattle.std.proofs.Common.{◌≡◌, ℕ, ◌+◌, ◌<◌, Bool, true, false, cond, List, ◌∷◌, length, Option, Some, None, is_some, Ok, Err, refl, sym, ap, ◌∙◌, subst, inl, inr, ◌⊎◌, arith}
use Rattle.std.specs.Prelude.{not, ◌||◌, ◌&&◌}
use Rattle.std.specs.BTreeMap.{insert_entry}
use Rattle.std.specs.Cmp.Lexicographic.{slice_cmp}
use Rattle.std.specs.List.{list_any}
use Rattle.std.specs.Ordering.{nat_cmp}
use Rattle.std.proofs.lemmas.Bool.{true≢false, or_cases, cases_Bool}
use Rattle.slab.specs.Slab.{Slab, with_value}
use Rattle.tl_types.specs.Same.{file_cmp, file_same, file_same-Decides}
use Rattle.tl_types.specs.declared.file_id.FileId.{FileId}
use Rattle.tl_types.specs.declared.record_id.RecordId.{RecordId}
use Rattle.tl_model.specs.declared.reply.Reply.{Reply}
use Rattle.tl_model.specs.Namespace.{PathOf, Node, file, Names, last_part, node_at, with_name, with_outputs}
use Rattle.tl_model.specs.Replies.{count_refusal, or_else, outputs_refusal, refusal_of}
use Rattle.tl_names.specs.declared.child.Child.TheVariants.{File}
use Rattle.tl_names.specs.Pins.{PinList, MakesFiles, PinsUpTo, PinsStandFor, names_file, pins_file, pin_in, pin_of}
use Rattle.tl_names.specs.Standing.{StandsFor}
use Rattle.tl_names.specs.Tables.{Children, Dirs, children_at, room_for, IsTree}
use Rattle.tl_names.proofs.Entries.{inserted_here, inserted_apart}
use Rattle.tl_names.proofs.Files.{by_file}
use Rattle.tl_names.proofs.Lookups.{without_none}
use Rattle.tl_names.proofs.Made.{Makes, file_makes}
use Rattle.tl_names.proofs.Pinned.{none_pinned, same_file}
use Rattle.tl_names.proofs.Replied.{room_same}
use Rattle.tl_names.proofs.Rooms.{room_found}

abbrev pub output : ℕ → ℕ → FileId
output made k = record { rec = record { 0 = made }; out = k }

abbrev pub output_node : ℕ → ℕ → Node
output_node made k = file (output made k) false

-- the first output can't be made
pub refused_here : (dirs : Dirs) (names : Names) (paths rest : List PathOf) (path : PathOf) (count k : ℕ) (refusal : Reply) → StandsFor dirs names → paths ≡ path ∷ rest →
    room_for dirs path ≡ Err refusal → Some refusal ≡ or_else (outputs_refusal names count k paths) (count_refusal count)
refused_here dirs names paths rest path count k refusal stands is refused =
    sym (ap (λ ps. or_else (outputs_refusal names count k ps) (count_refusal count)) is
    ∙ ap (λ o. or_else (or_else o (outputs_refusal (with_name names path (output_node count k)) count (k + 1) rest)) (count_refusal count)) (room_same dirs names stands path ∙ ap refusal_of refused))

-- the first output can be made
pub refused_later : (dirs : Dirs) (names : Names) (paths rest : List PathOf) (path : PathOf) (count k d : ℕ) (refusal : Option Reply) → StandsFor dirs names → paths ≡ path ∷ rest →
    room_for dirs path ≡ Ok d → refusal ≡ or_else (outputs_refusal (with_name names path (output_node count k)) count (k + 1) rest) (count_refusal count) →
    refusal ≡ or_else (outputs_refusal names count k paths) (count_refusal count)
refused_later dirs names paths rest path count k d refusal stands is room later =
    later
    ∙ sym (ap (λ ps. or_else (outputs_refusal names count k ps) (count_refusal count)) is
    ∙ ap (λ o. or_else (or_else o (outputs_refusal (with_name names path (output_node count k)) count (k + 1) rest)) (count_refusal count)) (room_same dirs names stands path ∙ ap refusal_of room))

-- the tables after a file was added
pub added_makes : (old new : Slab Children) → IsTree old.slots → (path : PathOf) (d : ℕ) (f : FileId) → room_for old.slots path ≡ Ok d →
    new ≡ with_value old d (insert_entry (slice_cmp nat_cmp) (children_at old.slots d) (last_part path) (File f false)) → Makes old.slots new.slots path (file f false)
added_makes old new tree path d f room is =
    subst (λ s. Makes old.slots s.slots path (file f false)) (sym is) (file_makes old.slots tree path d f false (room_found old.slots path d room))

-- ---- the files with a name

-- a file with no name has none among the names
pub pin_absent : (names : Names) (f : FileId) → list_any (names_file f) names ≡ false → pin_of names f ≡ None
pin_absent names f none = ap (λ b. cond b (Some (list_any (pins_file f) names)) None) none

fresh : (pins : PinList) (names : Names) (made k : ℕ) → PinsUpTo pins names made k → list_any (names_file (output made k)) names ≡ false
fresh pins names made k upto = by (cases_Bool (list_any (names_file (output made k)) names))
  where
    late : (made < made) ⊎ ((made ≡ made) × (k < k)) → ⊥
    late (inl less) = omega arith
    late (inr both) = let less : k < k = both.1 in omega arith

    by : (list_any (names_file (output made k)) names ≡ true) ⊎ (list_any (names_file (output made k)) names ≡ false) → list_any (names_file (output made k)) names ≡ false
    by (inl named) = absurd (late (upto.before (output made k) named))
    by (inr none) = none

pub file_added : (pins : PinList) (names : Names) (path : PathOf) (made k : ℕ) (added : Bool) → node_at names path ≡ None → PinsUpTo pins names made k →
    added ≡ not (is_some (pin_in pins (output made k))) →
    PinsUpTo (cond added (insert_entry file_cmp pins (output made k) false) pins) (with_name names path (output_node made k)) made (k + 1)
file_added pins names path made k added free upto is =
    subst (λ b. PinsUpTo (cond b (insert_entry file_cmp pins f false) pins) (with_name names path (file f false)) made (k + 1)) (sym new)
    (subst (λ rest. PinsUpTo (insert_entry file_cmp pins f false) ((path, file f false) ∷ rest) made (k + 1)) (sym (without_none path names free))
    (record { found = λ g. by g (file_same g f) refl; once = (none, upto.once); before = λ g named. earlier g (or_cases (file_same g f) (list_any (names_file g) names) named) }))
  where
    f : FileId
    f = output made k

    none : list_any (names_file f) names ≡ false
    none = fresh pins names made k upto

    new : added ≡ true
    new = is ∙ ap (λ o. not (is_some o)) (upto.found f ∙ pin_absent names f none)

    by : (g : FileId) (b : Bool) → file_same g f ≡ b → pin_in (insert_entry file_cmp pins f false) g ≡ pin_of ((path, file f false) ∷ names) g
    by g true same =
        let g_is : g ≡ f = (file_same-Decides g f).0 same in
        ap (pin_in (insert_entry file_cmp pins f false)) g_is ∙ inserted_here file_cmp file_same by_file f false pins
        ∙ sym (ap (pin_of ((path, file f false) ∷ names)) g_is
        ∙ ap (λ b. cond (b || list_any (names_file f) names) (Some ((b && false) || list_any (pins_file f) names)) None) (same_file f)
        ∙ ap Some (none_pinned f names none))
    by g false apart =
        inserted_apart file_cmp file_same by_file f g false pins (λ g_is. true≢false (sym ((file_same-Decides g f).1 g_is) ∙ apart))
        ∙ upto.found g
        ∙ sym (ap (λ b. cond (b || list_any (names_file g) names) (Some ((b && false) || list_any (pins_file g) names)) None) apart)

    earlier : (g : FileId) → (file_same g f ≡ true) ⊎ (list_any (names_file g) names ≡ true) → (g.rec.0 < made) ⊎ ((g.rec.0 ≡ made) × (g.out < k + 1))
    earlier g (inl same) =
        let g_is : g ≡ f = (file_same-Decides g f).0 same in
        let out : g.out ≡ k = ap (λ h. h.out) g_is in
        inr (ap (λ h. h.rec.0) g_is, omega arith)
    earlier g (inr named) = later (upto.before g named)
      where
        later : (g.rec.0 < made) ⊎ ((g.rec.0 ≡ made) × (g.out < k)) → (g.rec.0 < made) ⊎ ((g.rec.0 ≡ made) × (g.out < k + 1))
        later (inl less) = inl less
        later (inr both) = let less : g.out < k = both.1 in inr (both.0, omega arith)

-- the first output and the others
pub makes_more : (old mid new : Dirs) (pins pins_mid after : PinList) (paths rest : List PathOf) (path : PathOf) (made : RecordId) (k : ℕ) (added : Bool) → paths ≡ path ∷ rest →
    Makes old mid path (output_node made.0 k) → added ≡ not (is_some (pin_in pins (output made.0 k))) → pins_mid ≡ cond added (insert_entry file_cmp pins (output made.0 k) false) pins →
    MakesFiles mid pins_mid new after rest made (k + 1) → MakesFiles old pins new after paths made k
makes_more old mid new pins pins_mid after paths rest path made k added is first adds pins_is more = record {
  tree = more.tree;
  stands = λ names stands. subst (λ ps. StandsFor new (with_outputs names made k ps)) (sym is) (more.stands (with_name names path (output_node made.0 k)) (first.stands names stands));
  files = λ names stands upto.
      subst (λ ps. PinsUpTo after (with_outputs names made k ps) made.0 (k + length ps)) (sym is)
      (subst (PinsUpTo after (with_outputs names made k (path ∷ rest)) made.0) counted
      (more.files (with_name names path (output_node made.0 k)) (first.stands names stands)
      (subst (λ p. PinsUpTo p (with_name names path (output_node made.0 k)) made.0 (k + 1)) (sym pins_is) (file_added pins names path made.0 k added (first.free names stands) upto adds))));
}
  where
    counted : k + 1 + length rest ≡ k + length (path ∷ rest)
    counted = omega arith

pub begins_upto : (pins : PinList) (names : Names) (count : ℕ) → PinsStandFor pins names count → PinsUpTo pins names count 0
begins_upto pins names count stand = record { found = stand.found; once = stand.once; before = λ f named. inl (stand.made f named) }

pub ends_upto : (pins : PinList) (names : Names) (count k : ℕ) → PinsUpTo pins names count k → PinsStandFor pins names (count + 1)
ends_upto pins names count k upto = record { found = upto.found; once = upto.once; made = λ f named. by f (upto.before f named) }
  where
    by : (f : FileId) → (f.rec.0 < count) ⊎ ((f.rec.0 ≡ count) × (f.out < k)) → f.rec.0 < count + 1
    by f (inl less) = omega arith
    by f (inr both) = let same : f.rec.0 ≡ count = both.0 in omega arith
