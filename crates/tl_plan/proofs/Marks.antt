-- Files are marked as awaited at their places.
use Rattle.std.proofs.Common.{◌≡◌, ◌∙◌, arith, ℕ, zero, suc, ◌+◌, ◌<◌, ◌≤◌, Bool, true, false, ◌||◌, List, [], ◌∷◌, map, slice_get, Some, refl, sym, ap}
use Rattle.std.specs.List.{list_any}
use Rattle.tl_types.specs.Same.{file_same, file_same-Decides}
use Rattle.tl_types.specs.declared.file_id.FileId.{FileId}
use Rattle.tl_types.specs.declared.record_id.RecordId.{RecordId}
use Rattle.tl_model.specs.declared.record.Record.{Record}
use Rattle.tl_model.specs.Past.{Past}
use Rattle.tl_model.specs.History.{files_from, id_of, output_count}
use Rattle.tl_model.specs.Residency.{is_saved, place}
use Rattle.tl_laws.specs.Numbers.{Numbered}
use Rattle.tl_steps.proofs.Files.{not-true}
use Rattle.tl_steps.specs.Steps.{changed_at}
use Rattle.tl_plan.specs.declared.output.Output.{Output}
use Rattle.tl_plan.specs.Data.{all_awaited, awaited}
use Rattle.tl_plan.specs.Standing.{files_with, output_with}

-- the records are numbered from n on
abbrev pub StartsAt : ℕ → List Record → Type 0
StartsAt n [] = Unit {0}
StartsAt n (r ∷ rs) = ((id_of r).0 ≡ n) × StartsAt (suc n) rs

starts-from : (n : ℕ) (rs : List Record) → ((i : ℕ) (r : Record) → slice_get rs i ≡ Some r → (id_of r).0 ≡ n + i) → StartsAt n rs
starts-from n [] h = tt
starts-from n (r ∷ rs) h = (
  (let e : (id_of r).0 ≡ n + 0 = h 0 r refl in omega arith),
  starts-from (suc n) rs (λ i x at. let e : (id_of x).0 ≡ n + suc i = h (suc i) x at in omega arith),
)

pub starts : (rs : List Record) → Numbered rs → StartsAt 0 rs
starts rs numbered = starts-from 0 rs (λ i r at. let e : (id_of r).0 ≡ i = ap (λ (id : RecordId). id.0) (numbered i r at) in omega arith)

other-out : (id : RecordId) (j : ℕ) (f : FileId) → (j ≡ f.out → ⊥) → file_same (record { rec = id; out = j }) f ≡ false
other-out id j f differs = not-true (file_same (record { rec = id; out = j }) f) (λ t. differs (ap (λ (g : FileId). g.out) ((file_same-Decides (record { rec = id; out = j }) f).0 t)))

other-record : (id : RecordId) (j : ℕ) (f : FileId) → (id.0 ≡ f.rec.0 → ⊥) → file_same (record { rec = id; out = j }) f ≡ false
other-record id j f differs = not-true (file_same (record { rec = id; out = j }) f) (λ t. differs (ap (λ (g : FileId). g.rec.0) ((file_same-Decides (record { rec = id; out = j }) f).0 t)))

-- the file, and those before it
abbrev pub or_file : FileId → (FileId → Bool) → FileId → Bool
or_file f awaits g = file_same g f || awaits g

abbrev with_mark : Past → (FileId → Bool) → FileId → Bool → Output
with_mark past awaits g b = record { file = g; place = place past g; is_saved = is_saved past g; is_awaited = b || awaits g }

spared : (past : Past) (awaits : FileId → Bool) (f g : FileId) → file_same g f ≡ false → output_with past awaits g ≡ output_with past (or_file f awaits) g
spared past awaits f g e = ap (with_mark past awaits g) (sym e)

marked : (past : Past) (awaits : FileId → Bool) (f g : FileId) → file_same g f ≡ true → awaited (output_with past awaits g) ≡ output_with past (or_file f awaits) g
marked past awaits f g e = ap (with_mark past awaits g) (sym e)

outputs-spared : (past : Past) (awaits : FileId → Bool) (f : FileId) (id : RecordId) (k n : ℕ) →
    ((j : ℕ) → k ≤ j → file_same (record { rec = id; out = j }) f ≡ false) →
    map (output_with past awaits) (files_from id k n) ≡ map (output_with past (or_file f awaits)) (files_from id k n)
outputs-spared past awaits f id k zero h = refl
outputs-spared past awaits f id k (suc n) h =
    λ i. spared past awaits f (record { rec = id; out = k }) (h k (omega arith)) i ∷ outputs-spared past awaits f id (k + 1) n (λ j l. h j (omega arith)) i

outputs-marked : (past : Past) (awaits : FileId → Bool) (f : FileId) (id : RecordId) (k n m : ℕ) → id ≡ f.rec → f.out ≡ k + m →
    changed_at m awaited (map (output_with past awaits) (files_from id k n)) ≡ map (output_with past (or_file f awaits)) (files_from id k n)
outputs-marked past awaits f id k zero zero maker place = refl
outputs-marked past awaits f id k zero (suc m) maker place = refl
outputs-marked past awaits f id k (suc n) zero maker place =
    let out : k ≡ f.out = omega arith in
    let it : file_same (record { rec = id; out = k }) f ≡ true = (file_same-Decides (record { rec = id; out = k }) f).1 (λ i. record { rec = maker i; out = out i }) in
    λ i. marked past awaits f (record { rec = id; out = k }) it i
    ∷ outputs-spared past awaits f id (k + 1) n (λ j l. other-out id j f (λ e. omega arith)) i
outputs-marked past awaits f id k (suc n) (suc m) maker place =
    λ i. spared past awaits f (record { rec = id; out = k }) (other-out id k f (λ e. omega arith)) i
    ∷ outputs-marked past awaits f id (k + 1) n m maker (omega arith) i

files-spared : (past : Past) (awaits : FileId → Bool) (f : FileId) (n : ℕ) (rs : List Record) → StartsAt n rs → f.rec.0 < n →
    files_with past awaits rs ≡ files_with past (or_file f awaits) rs
files-spared past awaits f n [] from less = refl
files-spared past awaits f n (r ∷ rs) from less =
    let id : (id_of r).0 ≡ n = from.0 in
    λ i. outputs-spared past awaits f (id_of r) 0 (output_count r) (λ j l. other-record (id_of r) j f (λ e. omega arith)) i
    ∷ files-spared past awaits f (suc n) rs from.1 (omega arith) i

files-marked : (past : Past) (awaits : FileId → Bool) (f : FileId) (n : ℕ) (rs : List Record) (k : ℕ) → StartsAt n rs → f.rec.0 ≡ n + k →
    changed_at k (changed_at f.out awaited) (files_with past awaits rs) ≡ files_with past (or_file f awaits) rs
files-marked past awaits f n [] zero from place = refl
files-marked past awaits f n [] (suc k) from place = refl
files-marked past awaits f n (r ∷ rs) zero from place =
    let id : (id_of r).0 ≡ n = from.0 in
    let same : (id_of r).0 ≡ f.rec.0 = omega arith in
    let maker : id_of r ≡ f.rec = λ i. record { 0 = same i } in
    λ i. outputs-marked past awaits f (id_of r) 0 (output_count r) f.out maker (omega arith) i
    ∷ files-spared past awaits f (suc n) rs from.1 (omega arith) i
files-marked past awaits f n (r ∷ rs) (suc k) from place =
    let id : (id_of r).0 ≡ n = from.0 in
    λ i. outputs-spared past awaits f (id_of r) 0 (output_count r) (λ j l. other-record (id_of r) j f (λ e. omega arith)) i
    ∷ files-marked past awaits f (suc n) rs k from.1 (omega arith) i

or-swap : (a b c : Bool) → (a || (b || c)) ≡ ((b || a) || c)
or-swap true true c = refl
or-swap true false c = refl
or-swap false true c = refl
or-swap false false c = refl

-- the files of a list, and those before them
abbrev pub or_files : List FileId → (FileId → Bool) → FileId → Bool
or_files fs awaits g = list_any (file_same g) fs || awaits g

-- one after another
pub all-marked : (past : Past) (awaits : FileId → Bool) (fs : List FileId) (rs : List Record) → StartsAt 0 rs →
    all_awaited fs (files_with past awaits rs) ≡ files_with past (or_files fs awaits) rs
all-marked past awaits [] rs from = refl
all-marked past awaits (f ∷ fs) rs from =
    ap (all_awaited fs) (files-marked past awaits f 0 rs f.rec.0 from (omega arith))
    ∙ all-marked past (or_file f awaits) fs rs from
    ∙ ap (λ (h : FileId → Bool). files_with past h rs) (λ i g. or-swap (list_any (file_same g) fs) (file_same g f) (awaits g) i)
