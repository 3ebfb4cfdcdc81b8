-- What the choice finds is the first of the files to be saved.
use Rattle.std.proofs.Common.{◌≡◌, ◌∙◌, Bool, true, false, ◌&&◌, not, cond, if◌then◌else◌, List, [], ◌∷◌, ◌++◌, filter, map, Option, Some, None, option_map, refl, sym, ap}
use Rattle.std.specs.Prelude.{nat_le}
use Rattle.std.specs.List.{flat_map}
use Rattle.tl_types.specs.declared.file_id.FileId.{FileId}
use Rattle.tl_model.specs.declared.header.Header.{Header}
use Rattle.tl_model.specs.declared.record.Record.{Record}
use Rattle.tl_model.specs.Past.{Past}
use Rattle.tl_model.specs.Tables.{better, first_by, put_by, sort_by}
use Rattle.tl_model.specs.History.{files, is_named, outputs_of, records}
use Rattle.tl_model.specs.Actors.{actors, is_being_saved, saves_file}
use Rattle.tl_model.specs.Residency.{is_resident, is_saved, reads}
use Rattle.tl_model.specs.Eviction.{first_of}
use Rattle.tl_model.specs.Checkpoints.{can_be_saved, done_sooner, edge, hot_files, is_hot, is_leaf, leaves, next_save, read_more}
use Rattle.tl_steps.proofs.Lists.{any_map}
use Rattle.tl_edge.specs.declared.output.Output.{Output}
use Rattle.tl_edge.specs.declared.save.Save.{Save}
use Rattle.tl_edge.specs.Data.{EdgeData, best_at, choice, done_before, first_hot, first_in, first_in_all, first_leaf, first_step, is_being_saved_in, is_hot_file, is_saved_leaf, or_hot, read_before}
use Rattle.tl_edge.specs.Standing.{StandsFor, files_in, output_of, outputs_in, save_of}

-- ---- the first of a list in an order

first-if : {A : Type 0} (b : Bool) (s x : A) (ys zs : List A) → first_of (if b then s ∷ ys else x ∷ zs) ≡ Some (if b then s else x)
first-if true s x ys zs = refl
first-if false s x ys zs = refl

first-put : {A : Type 0} (before : A → A → Bool) (x : A) (ys : List A) → first_of (put_by before x ys) ≡ Some (better before x (first_of ys))
first-put before x [] = refl
first-put before x (s ∷ ys) = first-if (before s x) s x (put_by before x ys) (s ∷ ys)

first-sorted : {A : Type 0} (before : A → A → Bool) (xs : List A) → first_of (sort_by before xs) ≡ first_by before xs
first-sorted before [] = refl
first-sorted before (x ∷ xs) = first-put before x (sort_by before xs) ∙ ap (λ o. Some (better before x o)) (first-sorted before xs)

filtered : {A : Type 0} (before : A → A → Bool) (x : A) (ys : List A) (b : Bool) → first_by before (cond b (x ∷ ys) ys) ≡ cond b (Some (better before x (first_by before ys))) (first_by before ys)
filtered before x ys true = refl
filtered before x ys false = refl

first-filter : {A : Type 0} (test : A → Bool) (before : A → A → Bool) (xs : List A) → first_by before (filter test xs) ≡ first_in test before xs None
first-filter test before [] = refl
first-filter test before (x ∷ xs) =
    filtered before x (filter test xs) (test x) ∙ ap (first_step test before x) (first-filter test before xs)

first-append : {A : Type 0} (test : A → Bool) (before : A → A → Bool) (xs ys : List A) (later : Option A) →
    first_in test before (xs ++ ys) later ≡ first_in test before xs (first_in test before ys later)
first-append test before [] ys later = refl
first-append test before (x ∷ xs) ys later = ap (first_step test before x) (first-append test before xs ys later)

-- ---- of files, and of what is kept of them

if-over : {A B : Type 0} (g : A → B) (b : Bool) (s x : A) → (if b then g s else g x) ≡ g (if b then s else x)
if-over g true s x = refl
if-over g false s x = refl

step-over : {A B : Type 0} (g : A → B) (before : B → B → Bool) (x : A) (b : Bool) (o : Option A) →
    (if b then Some (better before (g x) (option_map g o)) else option_map g o) ≡ option_map g (if b then Some (better (λ s r. before (g s) (g r)) x o) else o)
step-over g before x true None = refl
step-over g before x true (Some s) = ap Some (if-over g (before (g s) (g x)) s x)
step-over g before x false o = refl

first-map : {A B : Type 0} (g : A → B) (test : B → Bool) (before : B → B → Bool) (xs : List A) (later : Option A) →
    first_in test before (map g xs) (option_map g later) ≡ option_map g (first_in (λ x. test (g x)) (λ s r. before (g s) (g r)) xs later)
first-map g test before [] later = refl
first-map g test before (x ∷ xs) later =
    ap (first_step test before (g x)) (first-map g test before xs later)
    ∙ step-over g before x (test (g x)) (first_in (λ y. test (g y)) (λ s r. before (g s) (g r)) xs later)

-- the first of the files of some records
abbrev first_file : Past → (Output → Bool) → (Output → Output → Bool) → List FileId → Option FileId
first_file past test before fs = first_in (λ f. test (output_of past f)) (λ s r. before (output_of past s) (output_of past r)) fs None

rows : (past : Past) (test : Output → Bool) (before : Output → Output → Bool) (rs : List Record) →
    first_in_all test before (files_in past rs) ≡ option_map (output_of past) (first_file past test before (flat_map outputs_of rs))
rows past test before [] = refl
rows past test before (r ∷ rs) =
    ap (first_in test before (outputs_in past r)) (rows past test before rs)
    ∙ first-map (output_of past) test before (outputs_of r) (first_file past test before (flat_map outputs_of rs))
    ∙ ap (option_map (output_of past))
    (sym (first-append (λ f. test (output_of past f)) (λ s r. before (output_of past s) (output_of past r)) (outputs_of r) (flat_map outputs_of rs) None))

-- ---- the two lists

abbrev saves_of : Past → List Save
saves_of past = map (save_of past) actors

saving-same : (past : Past) (f : FileId) → is_being_saved_in (saves_of past) f ≡ is_being_saved past f
saving-same past f = any_map (λ (save : Save). saves_file f save.file) (save_of past) actors

leaf-test : (past : Past) (f : FileId) → is_saved_leaf (saves_of past) (output_of past f) ≡ (can_be_saved past f && is_leaf past f)
leaf-test past f = ap (λ b. is_named past f && is_resident past f && not (is_saved past f) && not b && is_leaf past f) (saving-same past f)

hot-test : (header : Header) (past : Past) (f : FileId) → is_hot_file (saves_of past) header.hot (output_of past f) ≡ (can_be_saved past f && not (is_leaf past f) && is_hot header past f)
hot-test header past f =
    ap (λ b. is_named past f && is_resident past f && not (is_saved past f) && not b && not (is_leaf past f) && nat_le header.hot (reads past f)) (saving-same past f)

leaf-first : (past : Past) → first_leaf (saves_of past) (files_in past (records past)) ≡ option_map (output_of past) (first_of (leaves past))
leaf-first past =
    rows past (is_saved_leaf (saves_of past)) done_before (records past)
    ∙ ap (λ (test : FileId → Bool). option_map (output_of past) (first_in test (done_sooner past) (files past) None)) (λ i f. leaf-test past f i)
    ∙ ap (option_map (output_of past))
    (sym (first-sorted (done_sooner past) (filter (λ f. can_be_saved past f && is_leaf past f) (files past))
    ∙ first-filter (λ f. can_be_saved past f && is_leaf past f) (done_sooner past) (files past)))

hot-first : (header : Header) (past : Past) → first_hot (saves_of past) header.hot (files_in past (records past)) ≡ option_map (output_of past) (first_of (hot_files header past))
hot-first header past =
    rows past (is_hot_file (saves_of past) header.hot) read_before (records past)
    ∙ ap (λ (test : FileId → Bool). option_map (output_of past) (first_in test (read_more past) (files past) None)) (λ i f. hot-test header past f i)
    ∙ ap (option_map (output_of past))
    (sym (first-sorted (read_more past) (filter (λ f. can_be_saved past f && not (is_leaf past f) && is_hot header past f) (files past))
    ∙ first-filter (λ f. can_be_saved past f && not (is_leaf past f) && is_hot header past f) (read_more past) (files past)))

joined : (past : Past) (xs ys : List FileId) → or_hot (option_map (output_of past) (first_of xs)) (best_at (option_map (output_of past) (first_of ys))) ≡ first_of (xs ++ ys)
joined past [] [] = refl
joined past [] (y ∷ ys) = refl
joined past (x ∷ xs) ys = refl

-- the choice is the first of the files to be saved
pub choice-same : (header : Header) (edge : EdgeData) (past : Past) → StandsFor header edge past → choice edge.saves edge.hot edge.files ≡ next_save header past
choice-same header edge past stands =
    (λ i. choice (stands.saves i) (stands.hot i) (stands.files i))
    ∙ (λ i. or_hot (leaf-first past i) (best_at (hot-first header past i)))
    ∙ joined past (leaves past) (hot_files header past)
