-- The files of a past whose records are numbered: they stand in order, and each that a record makes is among them.
use Rattle.std.proofs.Common.{◌≡◌, ◌∙◌, ℕ, zero, suc, ◌+◌, ◌<◌, ◌≤◌, ◌⊎◌, inl, inr, Bool, true, false, ◌||◌, List, [], ◌∷◌, ◌++◌, slice_get, Option, Some, None, refl, sym, ap, arith}
use Rattle.std.specs.List.{AllByRecursion, flat_map}
use Rattle.std.specs.declared.cmp.Ordering.TheVariants.{Less}
use Rattle.std.proofs.lemmas.Bool.{ltb-true, cases_lt}
use Rattle.std.proofs.lemmas.List.Folds.{list_any-append}
use Rattle.tl_types.specs.Same.{file_cmp, file_same, file_same-Decides}
use Rattle.tl_types.specs.declared.file_id.FileId.{FileId}
use Rattle.tl_types.specs.declared.record_id.RecordId.{RecordId}
use Rattle.tl_model.specs.declared.record.Record.{Record}
use Rattle.tl_model.specs.Past.{Past}
use Rattle.tl_model.specs.History.{records, id_of, output_count, outputs_of, files_from, files, has_output}
use Rattle.tl_fleet.specs.Order.{Ascends, IsNumbered, is_made}
use Rattle.tl_fleet.proofs.Sooner.{lesser_record, lesser_output}
use Rattle.tl_fleet.specs.Events.{among}

pub all_joined : (P : FileId → Type 0) (fs gs : List FileId) → AllByRecursion P fs → AllByRecursion P gs → AllByRecursion P (fs ++ gs)
all_joined P [] gs a b = b
all_joined P (f ∷ fs) gs a b = (a.0, all_joined P fs gs a.1 b)

pub all_so : (P Q : FileId → Type 0) → ((f : FileId) → P f → Q f) → (fs : List FileId) → AllByRecursion P fs → AllByRecursion Q fs
all_so P Q so [] a = tt
all_so P Q so (f ∷ fs) a = (so f a.0, all_so P Q so fs a.1)

ascends_joined : (fs gs : List FileId) → Ascends fs → Ascends gs → AllByRecursion (λ f. AllByRecursion (λ g. file_cmp f g ≡ Less) gs) fs → Ascends (fs ++ gs)
ascends_joined [] gs a b all = b
ascends_joined (f ∷ fs) gs a b all = (all_joined (λ g. file_cmp f g ≡ Less) fs gs a.0 all.0, ascends_joined fs gs a.1 b all.1)

-- of the record, and from output k on
abbrev IsFrom : RecordId → ℕ → FileId → Type 0
IsFrom id k g = (g.rec ≡ id) × (k ≤ g.out)

from_after : (id : RecordId) (k : ℕ) (g : FileId) → IsFrom id (k + 1) g → IsFrom id k g
from_after id k g h = (h.0, (let l : k + 1 ≤ g.out = h.1 in omega arith))

outputs_from : (id : RecordId) (k n : ℕ) → AllByRecursion (IsFrom id k) (files_from id k n)
outputs_from id k zero = tt
outputs_from id k (suc n) = ((refl, omega arith), all_so (IsFrom id (k + 1)) (IsFrom id k) (from_after id k) (files_from id (k + 1) n) (outputs_from id (k + 1) n))

above : (id : RecordId) (k : ℕ) (g : FileId) → IsFrom id (k + 1) g → file_cmp (record { rec = id; out = k }) g ≡ Less
above id k g h =
    lesser_output (record { rec = id; out = k }) g (ap (λ (r : RecordId). r.0) (sym h.0)) (let l : k + 1 ≤ g.out = h.1 in omega arith)

outputs_ascend : (id : RecordId) (k n : ℕ) → Ascends (files_from id k n)
outputs_ascend id k zero = tt
outputs_ascend id k (suc n) = (
  all_so (IsFrom id (k + 1)) (λ g. file_cmp (record { rec = id; out = k }) g ≡ Less) (above id k) (files_from id (k + 1) n) (outputs_from id (k + 1) n),
  outputs_ascend id (k + 1) n,
)

abbrev NumberedFrom : ℕ → List Record → Type 0
NumberedFrom n rs = (i : ℕ) (r : Record) → slice_get rs i ≡ Some r → (id_of r).0 ≡ n + i

later_numbers : (n : ℕ) (r : Record) (rs : List Record) → NumberedFrom n (r ∷ rs) → NumberedFrom (n + 1) rs
later_numbers n r rs h i s got = let e : (id_of s).0 ≡ n + suc i = h (suc i) s got in omega arith

weaker : (n : ℕ) (g : FileId) → n + 1 ≤ g.rec.0 → n ≤ g.rec.0
weaker n g l = omega arith

of_one : (n : ℕ) (r : Record) → (id_of r).0 ≡ n → (g : FileId) → IsFrom (id_of r) 0 g → n ≤ g.rec.0
of_one n r e g h = let same : g.rec.0 ≡ (id_of r).0 = ap (λ (x : RecordId). x.0) h.0 in omega arith

over_all : (n : ℕ) (r : Record) → (id_of r).0 ≡ n → (gs : List FileId) → AllByRecursion (λ g. n + 1 ≤ g.rec.0) gs → (f : FileId) → IsFrom (id_of r) 0 f → AllByRecursion (λ g. file_cmp f g ≡ Less) gs
over_all n r e gs all f h =
    let same : f.rec.0 ≡ (id_of r).0 = ap (λ (x : RecordId). x.0) h.0 in
    all_so (λ g. n + 1 ≤ g.rec.0) (λ g. file_cmp f g ≡ Less) (λ g l. lesser_record f g (let m : n + 1 ≤ g.rec.0 = l in omega arith)) gs all

ascend_from : (n : ℕ) (rs : List Record) → NumberedFrom n rs → Ascends (flat_map outputs_of rs) × AllByRecursion (λ g. n ≤ g.rec.0) (flat_map outputs_of rs)
ascend_from n [] h = (tt, tt)
ascend_from n (r ∷ rs) h =
    let later = ascend_from (n + 1) rs (later_numbers n r rs h) in
    let first : (id_of r).0 ≡ n + 0 = h 0 r refl in
    let here : (id_of r).0 ≡ n = omega arith in (
      ascends_joined (outputs_of r) (flat_map outputs_of rs) (outputs_ascend (id_of r) 0 (output_count r)) later.0
          (all_so (IsFrom (id_of r) 0) (λ f. AllByRecursion (λ g. file_cmp f g ≡ Less) (flat_map outputs_of rs)) (over_all n r here (flat_map outputs_of rs) later.1) (outputs_of r) (outputs_from (id_of r) 0 (output_count r))),
      all_joined (λ g. n ≤ g.rec.0) (outputs_of r) (flat_map outputs_of rs)
          (all_so (IsFrom (id_of r) 0) (λ g. n ≤ g.rec.0) (of_one n r here) (outputs_of r) (outputs_from (id_of r) 0 (output_count r)))
          (all_so (λ g. n + 1 ≤ g.rec.0) (λ g. n ≤ g.rec.0) (weaker n) (flat_map outputs_of rs) later.1),
    )

numbers_from : (rs : List Record) → ((i : ℕ) (r : Record) → slice_get rs i ≡ Some r → id_of r ≡ record { 0 = i }) → NumberedFrom 0 rs
numbers_from rs h i r got = let e : (id_of r).0 ≡ i = ap (λ (x : RecordId). x.0) (h i r got) in omega arith

pub files_ascend : (past : Past) → IsNumbered past → Ascends (files past)
files_ascend past h = (ascend_from 0 (records past) (numbers_from (records past) h)).0

-- ---- each file that a record makes

or_at : (a b : Bool) → (a ≡ true) ⊎ (b ≡ true) → (a || b) ≡ true
or_at true b h = refl
or_at false true h = refl
or_at false false h = elim h [ inl t ↦ t | inr t ↦ t ]

among_from : (id : RecordId) (k n : ℕ) (f : FileId) → f.rec ≡ id → k ≤ f.out → f.out < k + n → among f (files_from id k n) ≡ true
among_from id k zero f same low high = absurd (omega arith)
among_from id k (suc n) f same low high = or_at (file_same f (record { rec = id; out = k })) (among f (files_from id (k + 1) n)) (elim (cases_lt k f.out) [
  | inl l ↦ inr (among_from id (k + 1) n f same (omega arith) (omega arith))
  | inr l ↦ inl ((file_same-Decides f (record { rec = id; out = k })).1 (let e : f.out ≡ k = omega arith in λ i. record { rec = same i; out = e i }))
])

among_flat : (f : FileId) (rs : List Record) (i : ℕ) (r : Record) → slice_get rs i ≡ Some r → among f (outputs_of r) ≡ true → among f (flat_map outputs_of rs) ≡ true
among_flat f [] i r got h = absurd (cc)
among_flat f (s ∷ rs) zero r got h =
    let at : s ≡ r = cc in
    list_any-append (file_same f) (outputs_of s) (flat_map outputs_of rs) ∙ or_at (among f (outputs_of s)) (among f (flat_map outputs_of rs)) (inl (ap (λ x. among f (outputs_of x)) at ∙ h))
among_flat f (s ∷ rs) (suc i) r got h =
    list_any-append (file_same f) (outputs_of s) (flat_map outputs_of rs) ∙ or_at (among f (outputs_of s)) (among f (flat_map outputs_of rs)) (inr (among_flat f rs i r got h))

among_made : (past : Past) (f : FileId) (o : Option Record) → IsNumbered past → slice_get (records past) f.rec.0 ≡ o → has_output o f.out ≡ true → among f (files past) ≡ true
among_made past f None numbered got h = absurd (cc)
among_made past f (Some r) numbered got h =
    let below : f.out < output_count r = ltb-true f.out (output_count r) h in
    among_flat f (records past) f.rec.0 r got (among_from (id_of r) 0 (output_count r) f (sym (numbered f.rec.0 r got)) (omega arith) (omega arith))

pub made_among : (past : Past) (f : FileId) → IsNumbered past → is_made past f ≡ true → among f (files past) ≡ true
made_among past f numbered h = among_made past f (slice_get (records past) f.rec.0) numbered refl h
