-- Files by record, of which some change, each at its place.
use Rattle.std.proofs.Common.{◌≡◌, ◌∙◌, arith, ℕ, zero, suc, ◌+◌, ◌≤◌, Bool, true, false, ◌||◌, if◌then◌else◌, List, [], ◌∷◌, map, slice_get, Some, refl, sym, ap}
use Rattle.tl_types.specs.Same.{file_same, record_same, file_same-Decides, record_same-Decides}
use Rattle.tl_types.specs.declared.file_id.FileId.{FileId}
use Rattle.tl_types.specs.declared.record_id.RecordId.{RecordId}
use Rattle.tl_model.specs.declared.record.Record.{Record}
use Rattle.tl_model.specs.History.{files_from, id_of, output_count, outputs_of}
use Rattle.tl_laws.specs.Numbers.{Numbered}
use Rattle.tl_steps.proofs.Lists.{map_after}
use Rattle.tl_steps.proofs.Files.{not-true}
use Rattle.tl_steps.specs.Steps.{changed_at}
use Rattle.tl_edge.specs.declared.change.Change.{Change}
use Rattle.tl_edge.specs.declared.output.Output.{Output}
use Rattle.tl_edge.specs.Data.{changed, is_in, with_each, with_file, with_row, with_rows}

-- the records are numbered from n on
abbrev pub StartsAt : ℕ → List Record → Type 0
StartsAt n [] = Unit {0}
StartsAt n (r ∷ rs) = ((id_of r).0 ≡ n) × StartsAt (suc n) rs

starts-from : (n : ℕ) (rs : List Record) → ((i : ℕ) (r : Record) → slice_get rs i ≡ Some r → (id_of r).0 ≡ n + i) → StartsAt n rs
starts-from n [] h = tt
starts-from n (r ∷ rs) h = (
  (let e : (id_of r).0 ≡ n + 0 = h 0 r refl in omega arith),
  starts-from (suc n) rs (λ i x at. let e : (id_of x).0 ≡ n + suc i = h (suc i) x at in omega arith),
)

pub starts : (rs : List Record) → Numbered rs → StartsAt 0 rs
starts rs numbered = starts-from 0 rs (λ i r at. let e : (id_of r).0 ≡ i = ap (λ (id : RecordId). id.0) (numbered i r at) in omega arith)

-- what is kept of each file, by record
abbrev pub rows : (FileId → Output) → List Record → List (List Output)
rows h rs = map (λ r. map h (outputs_of r)) rs

-- ---- one file

abbrev pub changed_if : Change → Bool → Output → Output
changed_if change b o = if b then changed change o else o

abbrev pub at_file : Change → FileId → (FileId → Output) → FileId → Output
at_file change f h g = changed_if change (file_same g f) (h g)

other-out : (id : RecordId) (j : ℕ) (f : FileId) → (j ≡ f.out → ⊥) → file_same (record { rec = id; out = j }) f ≡ false
other-out id j f differs = not-true (file_same (record { rec = id; out = j }) f) (λ t. differs (ap (λ (g : FileId). g.out) ((file_same-Decides (record { rec = id; out = j }) f).0 t)))

other-record : (id : RecordId) (j : ℕ) (f : FileId) → (id.0 ≡ f.rec.0 → ⊥) → file_same (record { rec = id; out = j }) f ≡ false
other-record id j f differs = not-true (file_same (record { rec = id; out = j }) f) (λ t. differs (ap (λ (g : FileId). g.rec.0) ((file_same-Decides (record { rec = id; out = j }) f).0 t)))

-- what the test says of a file decides whether it is changed
spared : (change : Change) (h : FileId → Output) (g : FileId) (b : Bool) → b ≡ false → h g ≡ changed_if change b (h g)
spared change h g b e = ap (λ c. changed_if change c (h g)) (sym e)

hit : (change : Change) (h : FileId → Output) (g : FileId) (b : Bool) → b ≡ true → changed change (h g) ≡ changed_if change b (h g)
hit change h g b e = ap (λ c. changed_if change c (h g)) (sym e)

outputs-spared : (change : Change) (test : FileId → Bool) (h : FileId → Output) (id : RecordId) (k n : ℕ) → ((j : ℕ) → k ≤ j → test (record { rec = id; out = j }) ≡ false) →
    map h (files_from id k n) ≡ map (λ g. changed_if change (test g) (h g)) (files_from id k n)
outputs-spared change test h id k zero off = refl
outputs-spared change test h id k (suc n) off =
    λ i. spared change h (record { rec = id; out = k }) (test (record { rec = id; out = k })) (off k (omega arith)) i
    ∷ outputs-spared change test h id (k + 1) n (λ j l. off j (omega arith)) i

outputs-hit : (change : Change) (f : FileId) (h : FileId → Output) (id : RecordId) (k n m : ℕ) → id ≡ f.rec → f.out ≡ k + m →
    changed_at m (changed change) (map h (files_from id k n)) ≡ map (at_file change f h) (files_from id k n)
outputs-hit change f h id k zero zero maker place = refl
outputs-hit change f h id k zero (suc m) maker place = refl
outputs-hit change f h id k (suc n) zero maker place =
    let out : k ≡ f.out = omega arith in
    let it : file_same (record { rec = id; out = k }) f ≡ true = (file_same-Decides (record { rec = id; out = k }) f).1 (λ i. record { rec = maker i; out = out i }) in
    λ i. hit change h (record { rec = id; out = k }) (file_same (record { rec = id; out = k }) f) it i
    ∷ outputs-spared change (λ g. file_same g f) h id (k + 1) n (λ j l. other-out id j f (λ e. omega arith)) i
outputs-hit change f h id k (suc n) (suc m) maker place =
    λ i. spared change h (record { rec = id; out = k }) (file_same (record { rec = id; out = k }) f) (other-out id k f (λ e. omega arith)) i
    ∷ outputs-hit change f h id (k + 1) n m maker (omega arith) i

rows-spared : (change : Change) (test : FileId → Bool) (h : FileId → Output) (n : ℕ) (rs : List Record) → StartsAt n rs → ((g : FileId) → n ≤ g.rec.0 → test g ≡ false) →
    rows h rs ≡ rows (λ g. changed_if change (test g) (h g)) rs
rows-spared change test h n [] from off = refl
rows-spared change test h n (r ∷ rs) from off =
    let id : (id_of r).0 ≡ n = from.0 in
    λ i. outputs-spared change test h (id_of r) 0 (output_count r) (λ j l. off (record { rec = id_of r; out = j }) (omega arith)) i
    ∷ rows-spared change test h (suc n) rs from.1 (λ g l. off g (omega arith)) i

other-file : (f g : FileId) → (g.rec.0 ≡ f.rec.0 → ⊥) → file_same g f ≡ false
other-file f g differs = other-record g.rec g.out f differs

file-from : (change : Change) (f : FileId) (h : FileId → Output) (n : ℕ) (rs : List Record) (k : ℕ) → StartsAt n rs → f.rec.0 ≡ n + k →
    changed_at k (changed_at f.out (changed change)) (rows h rs) ≡ rows (at_file change f h) rs
file-from change f h n [] zero from place = refl
file-from change f h n [] (suc k) from place = refl
file-from change f h n (r ∷ rs) zero from place =
    let id : (id_of r).0 ≡ n = from.0 in
    let same : (id_of r).0 ≡ f.rec.0 = omega arith in
    let maker : id_of r ≡ f.rec = λ i. record { 0 = same i } in
    λ i. outputs-hit change f h (id_of r) 0 (output_count r) f.out maker (omega arith) i
    ∷ rows-spared change (λ g. file_same g f) h (suc n) rs from.1 (λ g l. other-file f g (λ e. omega arith)) i
file-from change f h n (r ∷ rs) (suc k) from place =
    let id : (id_of r).0 ≡ n = from.0 in
    λ i. outputs-spared change (λ g. file_same g f) h (id_of r) 0 (output_count r) (λ j l. other-record (id_of r) j f (λ e. omega arith)) i
    ∷ file-from change f h (suc n) rs k from.1 (omega arith) i

pub file-in-rows : (change : Change) (f : FileId) (h : FileId → Output) (rs : List Record) → StartsAt 0 rs → with_file change f (rows h rs) ≡ rows (at_file change f h) rs
file-in-rows change f h rs from = file-from change f h 0 rs f.rec.0 from (omega arith)

-- ---- the files of one record

abbrev pub at_record : Change → RecordId → (FileId → Output) → FileId → Output
at_record change made h g = changed_if change (record_same g.rec made) (h g)

other-maker : (id made : RecordId) → (id.0 ≡ made.0 → ⊥) → record_same id made ≡ false
other-maker id made differs = not-true (record_same id made) (λ t. differs (ap (λ (r : RecordId). r.0) ((record_same-Decides id made).0 t)))

row-hit : (change : Change) (made : RecordId) (h : FileId → Output) (id : RecordId) (k n : ℕ) → record_same id made ≡ true →
    map (changed change) (map h (files_from id k n)) ≡ map (at_record change made h) (files_from id k n)
row-hit change made h id k zero it = refl
row-hit change made h id k (suc n) it =
    λ i. hit change h (record { rec = id; out = k }) (record_same id made) it i ∷ row-hit change made h id (k + 1) n it i

row-from : (change : Change) (made : RecordId) (h : FileId → Output) (n : ℕ) (rs : List Record) (k : ℕ) → StartsAt n rs → made.0 ≡ n + k →
    changed_at k (map (changed change)) (rows h rs) ≡ rows (at_record change made h) rs
row-from change made h n [] zero from place = refl
row-from change made h n [] (suc k) from place = refl
row-from change made h n (r ∷ rs) zero from place =
    let id : (id_of r).0 ≡ n = from.0 in
    let same : (id_of r).0 ≡ made.0 = omega arith in
    let it : record_same (id_of r) made ≡ true = (record_same-Decides (id_of r) made).1 (λ i. record { 0 = same i }) in
    λ i. row-hit change made h (id_of r) 0 (output_count r) it i
    ∷ rows-spared change (λ g. record_same g.rec made) h (suc n) rs from.1 (λ g l. other-maker g.rec made (λ e. omega arith)) i
row-from change made h n (r ∷ rs) (suc k) from place =
    let id : (id_of r).0 ≡ n = from.0 in
    λ i. outputs-spared change (λ g. record_same g.rec made) h (id_of r) 0 (output_count r) (λ j l. other-maker (id_of r) made (λ e. omega arith)) i
    ∷ row-from change made h (suc n) rs k from.1 (omega arith) i

pub row-in-rows : (change : Change) (made : RecordId) (h : FileId → Output) (rs : List Record) → StartsAt 0 rs → with_row change made (rows h rs) ≡ rows (at_record change made h) rs
row-in-rows change made h rs from = row-from change made h 0 rs made.0 from (omega arith)

-- ---- all files

pub all-in-rows : (change : Change) (h : FileId → Output) (rs : List Record) → with_rows change (rows h rs) ≡ rows (λ g. changed change (h g)) rs
all-in-rows change h [] = refl
all-in-rows change h (r ∷ rs) = λ i. map_after h (changed change) (outputs_of r) i ∷ all-in-rows change h rs i

-- ---- each of some files, once

abbrev pub at_each : Change → List FileId → (FileId → Output) → FileId → Output
at_each change fs h g = changed_if change (is_in g fs) (h g)

-- a file that comes again later is changed then
later-hit : (change : Change) (here later : Bool) (o : Output) → (here ≡ true → later ≡ true) → changed_if change later o ≡ changed_if change (here || later) o
later-hit change true later o again = ap (λ b. changed_if change b o) (again refl)
later-hit change false later o again = refl

now-hit : (change : Change) (here later : Bool) (o : Output) → (here ≡ true → later ≡ false) → changed_if change later (changed_if change here o) ≡ changed_if change (here || later) o
now-hit change true later o once = ap (λ b. changed_if change b (changed change o)) (once refl)
now-hit change false later o once = refl

among : (g f : FileId) (fs : List FileId) (b : Bool) → is_in f fs ≡ b → file_same g f ≡ true → is_in g fs ≡ b
among g f fs b e same = ap (λ (x : FileId). is_in x fs) ((file_same-Decides g f).0 same) ∙ e

one-of-each : (change : Change) (f : FileId) (fs : List FileId) (h : FileId → Output) (rs : List Record) (b : Bool) → is_in f fs ≡ b → StartsAt 0 rs →
    ((k : FileId → Output) → with_each change fs (rows k rs) ≡ rows (at_each change fs k) rs) →
    with_each change fs (if b then rows h rs else with_file change f (rows h rs)) ≡ rows (at_each change (f ∷ fs) h) rs
one-of-each change f fs h rs true e from rest =
    rest h
    ∙ ap (λ (k : FileId → Output). rows k rs) (λ i g. later-hit change (file_same g f) (is_in g fs) (h g) (λ same. among g f fs true e same) i)
one-of-each change f fs h rs false e from rest =
    ap (with_each change fs) (file-in-rows change f h rs from)
    ∙ rest (at_file change f h)
    ∙ ap (λ (k : FileId → Output). rows k rs) (λ i g. now-hit change (file_same g f) (is_in g fs) (h g) (λ same. among g f fs false e same) i)

pub each-in-rows : (change : Change) (fs : List FileId) (h : FileId → Output) (rs : List Record) → StartsAt 0 rs → with_each change fs (rows h rs) ≡ rows (at_each change fs h) rs
each-in-rows change [] h rs from = refl
each-in-rows change (f ∷ fs) h rs from = one-of-each change f fs h rs (is_in f fs) refl from (λ k. each-in-rows change fs k rs from)
