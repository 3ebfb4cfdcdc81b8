-- A name that is made and taken away again leaves the tables as they were.
use Rattle.std.proofs.Common.{◌≡◌, ℕ, Bool, true, false, cond, List, [], Option, Some, None, is_some, get_or, refl, sym, ap, ◌∙◌, subst}
use Rattle.std.specs.Prelude.{IsSome, not, slice_set, unwrap_or}
use Rattle.std.specs.BTreeMap.{insert_entry}
use Rattle.std.specs.Cmp.Lexicographic.{slice_cmp}
use Rattle.std.specs.Map.{remove_entry}
use Rattle.std.specs.Ordering.{nat_cmp}
use Rattle.std.specs.Str.{bytes_eq}
use Rattle.std.proofs.lemmas.List.{set-get_or, set-set}
use Rattle.std.proofs.lemmas.Bool.{false≢true}
use Rattle.slab.specs.Slab.{Slab, with_value}
use Rattle.tl_types.specs.Same.{file_cmp, file_same}
use Rattle.tl_types.specs.declared.file_id.FileId.{FileId}
use Rattle.tl_names.specs.declared.child.Child.{Child}
use Rattle.tl_names.specs.Pins.{PinList, pin_in}
use Rattle.tl_names.specs.Tables.{Children, Dirs, children_at, child_at, IsKnown}
use Rattle.tl_names.proofs.Entries.{by_bytes, inserted_and_removed}
use Rattle.tl_names.proofs.Files.{by_file}
use Rattle.tl_names.proofs.Trees.{set_here, set_known}

in_use : (o : Option Children) → IsSome o → Some (unwrap_or o []) ≡ o
in_use None known = absurd (false≢true known)
in_use (Some names) known = refl

put_back : (dirs : Dirs) (d : ℕ) (names : Children) → IsKnown dirs d → slice_set (slice_set dirs d (Some names)) d (Some (children_at dirs d)) ≡ dirs
put_back dirs d names known = set-set dirs d (Some names) (Some (children_at dirs d)) ∙ ap (slice_set dirs d) (in_use (get_or dirs d None) known) ∙ set-get_or dirs d None

pub restored : (s mid : Slab Children) (d : ℕ) (n : List ℕ) (x : Child) → IsKnown s.slots d → child_at s.slots d n ≡ None →
    mid ≡ with_value s d (insert_entry (slice_cmp nat_cmp) (children_at s.slots d) n x) → with_value mid d (remove_entry (bytes_eq n) (children_at mid.slots d)) ≡ s
restored s mid d n x known new is =
    ap (λ m. with_value m d (remove_entry (bytes_eq n) (children_at m.slots d))) is
    ∙ ap (λ names. record s { slots = slice_set (slice_set s.slots d (Some (insert_entry (slice_cmp nat_cmp) (children_at s.slots d) n x))) d (Some names) })
    (ap (remove_entry (bytes_eq n)) (set_here s.slots d (insert_entry (slice_cmp nat_cmp) (children_at s.slots d) n x) known)
    ∙ inserted_and_removed (slice_cmp nat_cmp) bytes_eq by_bytes n x (children_at s.slots d) new)
    ∙ ap (λ slots. record s { slots = slots }) (put_back s.slots d (insert_entry (slice_cmp nat_cmp) (children_at s.slots d) n x) known)

pub file_restored : (pins mid : PinList) (f : FileId) (b added : Bool) → added ≡ not (is_some (pin_in pins f)) → mid ≡ cond added (insert_entry file_cmp pins f b) pins →
    cond added (remove_entry (file_same f) mid) mid ≡ pins
file_restored pins mid f b true fresh is = ap (remove_entry (file_same f)) is ∙ inserted_and_removed file_cmp file_same by_file f b pins (absent (pin_in pins f) fresh)
  where
    absent : (o : Option Bool) → true ≡ not (is_some o) → o ≡ None
    absent None new = refl
    absent (Some c) new = absurd (false≢true (sym new))
file_restored pins mid f b false fresh is = is

-- the same where something was tried between
pub known_after : (s mid after : Slab Children) (d : ℕ) (names : Children) → IsKnown s.slots d → mid ≡ with_value s d names → after ≡ mid → IsKnown after.slots d
known_after s mid after d names known is kept = subst (λ a. IsKnown a.slots d) (sym (kept ∙ is)) (set_known s.slots d d names known)

pub restored_after : (s mid after last : Slab Children) (d : ℕ) (n : List ℕ) (x : Child) → IsKnown s.slots d → child_at s.slots d n ≡ None →
    mid ≡ with_value s d (insert_entry (slice_cmp nat_cmp) (children_at s.slots d) n x) → after ≡ mid → last ≡ with_value after d (remove_entry (bytes_eq n) (children_at after.slots d)) → last ≡ s
restored_after s mid after last d n x known new is kept taken =
    taken ∙ ap (λ a. with_value a d (remove_entry (bytes_eq n) (children_at a.slots d))) kept ∙ restored s mid d n x known new is

pub file_restored_after : (pins mid after last : PinList) (f : FileId) (added : Bool) → added ≡ not (is_some (pin_in pins f)) → mid ≡ cond added (insert_entry file_cmp pins f false) pins →
    after ≡ mid → last ≡ cond added (remove_entry (file_same f) after) after → last ≡ pins
file_restored_after pins mid after last f added fresh is kept taken =
    taken ∙ ap (λ a. cond added (remove_entry (file_same f) a) a) kept ∙ file_restored pins mid f false added fresh is
