-- Where there is a task and nothing is running, some task is ready.
use Rattle.std.proofs.Common.{◌≡◌, ℕ, zero, suc, ◌+◌, ◌<◌, ◌≤◌, ◌⊎◌, inl, inr, Bool, true, false, not, ◌&&◌, ◌||◌, cond, if◌then◌else◌, List, [], ◌∷◌, filter, slice_get, Option, Some, None, is_some, option_map, refl, sym, ap, ◌∙◌, subst, arith}
use Rattle.std.specs.List.{AllByRecursion, list_any, list_all}
use Rattle.std.proofs.lemmas.Bool.{and_parts, and_from, ltb-true}
use Rattle.std.proofs.lemmas.Bool.Decides.{Decides-eqb}
use Rattle.tl_types.specs.Same.{file_same, file_same-Decides}
use Rattle.tl_types.specs.declared.file_id.FileId.{FileId}
use Rattle.tl_types.specs.declared.record_id.RecordId.{RecordId}
use Rattle.tl_model.specs.declared.record.Record.{Record}
use Rattle.tl_model.specs.declared.record.Record.TheVariants as kind
use Rattle.tl_model.specs.declared.header.Header.{Header}
use Rattle.tl_model.specs.declared.event.Event.{Event}
use Rattle.tl_model.specs.Past.{Past, without_tickets}
use Rattle.tl_model.specs.Tables.{Table, downward, answer_at, chosen, first_by}
use Rattle.tl_model.specs.History.{records, record_at, id_of, is_job, inputs_of, output_count, outputs_of, files_from, has_input, has_output}
use Rattle.tl_model.specs.Actors.{is_running, is_read}
use Rattle.tl_model.specs.Residency.{is_saved, is_resident, is_available, all_available, was_done}
use Rattle.tl_model.specs.Plan.{has_id, is_awaited, is_wanted_by, lacks, task_among, is_task, can_run, ready, next}
use Rattle.tl_model.specs.declared.header.OrderRule.{OrderRule}
use Rattle.tl_laws.proofs.Next.{goes_before, next-first}
use Rattle.tl_model.specs.Rules.{all_permitted, is_quiet, lawful_judge, is_lawful}
use Rattle.tl_laws.specs.Numbers.{Numbered}
use Rattle.tl_laws.proofs.Numbering.{below_or_not, all-numbered}
use Rattle.tl_laws.proofs.Order.{all-get, all-ordered, all-map}
use Rattle.tl_laws.proofs.Saves.{quiet-saves}
use Rattle.tl_laws.specs.Made.{IsOutputOf, HasMadeInputs}
use Rattle.tl_laws.proofs.Made.{past-made}
use Rattle.tl_laws.specs.Order.{HasOlderInputs}
use Rattle.tl_laws.proofs.Tickets.{records-with}

or-left : (a b : Bool) → a ≡ true → (a || b) ≡ true
or-left true b h = refl
or-left false b h = absurd (cc)

or-right : (a b : Bool) → b ≡ true → (a || b) ≡ true
or-right true b h = refl
or-right false b h = h

pub difference : (j i : ℕ) → j < i → (d : ℕ) × (i ≡ suc (j + d))
difference j zero less = absurd (omega arith)
difference zero (suc i) less = (i, (let e : suc i ≡ suc (0 + i) = omega arith in e))
difference (suc j) (suc i) less = let d = difference j i (omega arith) in (d.0, (let e : suc i ≡ suc (suc j + d.0) = (let h : i ≡ suc (j + d.0) = d.1 in omega arith) in e))

-- ---- tables

-- what comes after a place of a list
abbrev pub after : List Record → ℕ → List Record
after [] i = []
after (x ∷ xs) zero = xs
after (x ∷ xs) (suc i) = after xs i

pub get-after : (rs : List Record) (j i m : ℕ) → m ≡ j + i → slice_get (after rs j) i ≡ slice_get rs (suc m)
get-after [] j i m e = refl
get-after (x ∷ xs) zero i m e = ap (slice_get xs) (let same : i ≡ m = omega arith in same)
get-after (x ∷ xs) (suc j) i zero e = absurd (omega arith)
get-after (x ∷ xs) (suc j) i (suc m) e = get-after xs j i m (omega arith)

pub after-after : (rs : List Record) (j i m : ℕ) → m ≡ j + i → after (after rs j) i ≡ after rs (suc m)
after-after [] j i m e = refl
after-after (x ∷ xs) zero i m e = ap (after xs) (let same : i ≡ m = omega arith in same)
after-after (x ∷ xs) (suc j) i zero e = absurd (omega arith)
after-after (x ∷ xs) (suc j) i (suc m) e = after-after xs j i m (omega arith)

-- the records are numbered from k on
abbrev pub NumberedFrom : ℕ → List Record → Type 0
NumberedFrom k rs = (j : ℕ) (x : Record) → slice_get rs j ≡ Some x → (id_of x).0 ≡ k + j

numbered-rest : (k : ℕ) (x : Record) (xs : List Record) → NumberedFrom k (x ∷ xs) → NumberedFrom (k + 1) xs
numbered-rest k x xs n = λ j y at. let e : (id_of y).0 ≡ k + suc j = n (suc j) y at in omega arith

not-true : (b : Bool) → (b ≡ true → ⊥) → b ≡ false
not-true true never = absurd (never refl)
not-true false never = refl

at-head : {A : Type 0} (otherwise : A) (answer : Table Record A → Record → A) (made : RecordId) (x : Record) (xs : List Record) (b : Bool) → has_id made x ≡ b →
    answer_at (has_id made) otherwise (downward answer (x ∷ xs)) ≡ (if b then answer (downward answer xs) x else answer_at (has_id made) otherwise (downward answer xs))
at-head otherwise answer made x xs b e = ap (λ t. if t then answer (downward answer xs) x else answer_at (has_id made) otherwise (downward answer xs)) e

answer-from : {A : Type 0} (otherwise : A) (answer : Table Record A → Record → A) (k : ℕ) (rs : List Record) (i : ℕ) (r : Record) (m : ℕ) → NumberedFrom k rs →
    slice_get rs i ≡ Some r → m ≡ k + i → answer_at (has_id (record { 0 = m })) otherwise (downward answer rs) ≡ answer (downward answer (after rs i)) r
answer-from otherwise answer k [] i r m n at e = absurd (cc)
answer-from otherwise answer k (x ∷ xs) zero r m n at e =
    let same : x ≡ r = cc in
    let id : (id_of x).0 ≡ k + 0 = n 0 x refl in
    let number : m ≡ (id_of x).0 = omega arith in
    at-head otherwise answer (record { 0 = m }) x xs true ((Decides-eqb m (id_of x).0).1 number) ∙ ap (answer (downward answer xs)) same
answer-from otherwise answer k (x ∷ xs) (suc i) r m n at e =
    let id : (id_of x).0 ≡ k + 0 = n 0 x refl in
    let other : has_id (record { 0 = m }) x ≡ false =
    not-true (has_id (record { 0 = m }) x) (λ t. let h : m ≡ (id_of x).0 = (Decides-eqb m (id_of x).0).0 t in omega arith) in
    at-head otherwise answer (record { 0 = m }) x xs false other ∙ answer-from otherwise answer (k + 1) xs i r m (numbered-rest k x xs n) at (omega arith)

-- the answer for the record at a place is the one that is made from the table of the later ones
pub answer-at-place : {A : Type 0} (otherwise : A) (answer : Table Record A → Record → A) (rs : List Record) (i : ℕ) (r : Record) → Numbered rs → slice_get rs i ≡ Some r →
    answer_at (has_id (id_of r)) otherwise (downward answer rs) ≡ answer (downward answer (after rs i)) r
answer-at-place otherwise answer rs i r n at =
    let from : NumberedFrom 0 rs = λ j x k. let e : (id_of x).0 ≡ j = ap (λ (id : RecordId). id.0) (n j x k) in omega arith in
    let place : (id_of r).0 ≡ 0 + i = from i r at in
    answer-from otherwise answer 0 rs i r (id_of r).0 from at place

pub task-at : (past : Past) (i : ℕ) (r : Record) → Numbered (records past) → slice_get (records past) i ≡ Some r →
    is_task past (id_of r) ≡ task_among past (downward (task_among past) (after (records past) i)) r
task-at past i r n at = answer-at-place false (task_among past) (records past) i r n at

chosen-head : (test : Record → Bool) (x : Record) (b : Bool) (table : Table Record Bool) → list_any test (chosen table) ≡ true → list_any test (if b then x ∷ chosen table else chosen table) ≡ true
chosen-head test x true table h = or-right (test x) (list_any test (chosen table)) h
chosen-head test x false table h = h

chosen-first : (test : Record → Bool) (x : Record) (b : Bool) (table : Table Record Bool) → b ≡ true → test x ≡ true → list_any test (if b then x ∷ chosen table else chosen table) ≡ true
chosen-first test x true table h t = or-left (test x) (list_any test (chosen table)) t
chosen-first test x false table h t = absurd (cc)

-- a record whose answer is yes is among those that the table chooses
pub chosen-has : (answer : Table Record Bool → Record → Bool) (test : Record → Bool) (rs : List Record) (i : ℕ) (r : Record) → slice_get rs i ≡ Some r →
    answer (downward answer (after rs i)) r ≡ true → test r ≡ true → list_any test (chosen (downward answer rs)) ≡ true
chosen-has answer test [] i r at chose t = absurd (cc)
chosen-has answer test (x ∷ xs) zero r at chose t =
    let same : x ≡ r = cc in
    chosen-first test x (answer (downward answer xs) x) (downward answer xs) (ap (answer (downward answer xs)) same ∙ chose) (ap test same ∙ t)
chosen-has answer test (x ∷ xs) (suc i) r at chose t =
    chosen-head test x (answer (downward answer xs) x) (downward answer xs) (chosen-has answer test xs i r at chose t)

-- ---- a task whose input is missing

pub any-output : (p : FileId → Bool) (id : RecordId) (k n o : ℕ) → p (record { rec = id; out = o }) ≡ true → k ≤ o → o < k + n → list_any p (files_from id k n) ≡ true
any-output p id k zero o h low high = absurd (omega arith)
any-output p id k (suc n) o h low high = elim (below_or_not k o) [
  | inl less ↦ or-right (p (record { rec = id; out = k })) (list_any p (files_from id (k + 1) n)) (any-output p id (k + 1) n o h (omega arith) (omega arith))
  | inr more ↦
      let same : k ≡ o = omega arith in
      or-left (p (record { rec = id; out = k })) (list_any p (files_from id (k + 1) n)) (ap (λ (x : ℕ). p (record { rec = id; out = x })) same ∙ h)
]

-- the maker of a missing input of a task that isn't running is a task
pub maker-is-task : (past : Past) (j i : ℕ) (q r : Record) (f : FileId) → Numbered (records past) → slice_get (records past) j ≡ Some q → slice_get (records past) i ≡ Some r →
    j < i → is_task past (id_of r) ≡ true → is_running past (id_of r) ≡ false → has_input f r ≡ true → f.rec ≡ id_of q → f.out < output_count q →
    is_available past f ≡ false → is_job q ≡ true → is_task past (id_of q) ≡ true
maker-is-task past j i q r f n at_q at_r less task idle reads made out missing job =
    let rs = records past in
    let answer = task_among past in
    let gap : (d : ℕ) × (i ≡ suc (j + d)) = difference j i less in
    let in_rest : slice_get (after rs j) gap.0 ≡ Some r = get-after rs j gap.0 (j + gap.0) refl ∙ ap (slice_get rs) (sym gap.1) ∙ at_r in
    let rest : after (after rs j) gap.0 ≡ after rs i = after-after rs j gap.0 (j + gap.0) refl ∙ ap (after rs) (sym gap.1) in
    let chose : answer (downward answer (after (after rs j) gap.0)) r ≡ true =
    ap (λ (xs : List Record). answer (downward answer xs) r) rest ∙ sym (task-at past i r n at_r) ∙ task in
    let waits : (has_input f r && not (is_running past (id_of r))) ≡ true = and_from _ _ reads (ap not idle) in
    let awaited : is_awaited past (downward answer (after rs j)) f ≡ true =
    chosen-has answer (λ s. has_input f s && not (is_running past (id_of s))) (after rs j) gap.0 r in_rest chose waits in
    let wanted : is_wanted_by past (downward answer (after rs j)) f ≡ true = or-right (is_read past f) (is_awaited past (downward answer (after rs j)) f) awaited in
    let lack : lacks past (downward answer (after rs j)) f ≡ true = and_from _ _ wanted (ap not missing) in
    let file : record { rec = id_of q; out = f.out } ≡ f = λ i. record { rec = sym made i; out = f.out } in
    let some : list_any (lacks past (downward answer (after rs j))) (outputs_of q) ≡ true =
    any-output (lacks past (downward answer (after rs j))) (id_of q) 0 (output_count q) f.out (ap (lacks past (downward answer (after rs j))) file ∙ lack) (omega arith) (omega arith) in
    task-at past j q n at_q ∙ and_from _ _ job (or-right (not (was_done past (id_of q))) _ some)

-- ---- the least task

-- a file with the property that isn't available, among these
abbrev pub Missing : Past → (FileId → Type 0) → Type 0
Missing past P = (f : FileId) × (P f) × (is_available past f ≡ false)

missing-at : (past : Past) (P : FileId → Type 0) (f : FileId) (b others : Bool) → is_available past f ≡ b → P f → (others ≡ false → Missing past P) → (b && others) ≡ false → Missing past P
missing-at past P f true others e p later is = later is
missing-at past P f false others e p later is = (f, p, e)

missing-input : (past : Past) (P : FileId → Type 0) (fs : List FileId) → AllByRecursion P fs → list_all (is_available past) fs ≡ false → Missing past P
missing-input past P [] h is = absurd (cc)
missing-input past P (f ∷ fs) h is =
    missing-at past P f (is_available past f) (list_all (is_available past) fs) refl h.0 (missing-input past P fs h.1) is

same-head : (f : FileId) (xs : List FileId) → list_any (file_same f) (f ∷ xs) ≡ true
same-head f xs = or-left (file_same f f) (list_any (file_same f) xs) ((file_same-Decides f f).1 refl)

pub each-among : (xs : List FileId) → AllByRecursion (λ f. list_any (file_same f) xs ≡ true) xs
each-among [] = tt
each-among (x ∷ xs) = (
  same-head x xs,
  all-map (λ f. list_any (file_same f) xs ≡ true) (λ f. list_any (file_same f) (x ∷ xs) ≡ true)
      (λ f h. or-right (file_same f x) (list_any (file_same f) xs) h) xs (each-among xs),
)

pub all-both : {A : Type 0} (P Q : A → Type 0) (xs : List A) → AllByRecursion P xs → AllByRecursion Q xs → AllByRecursion (λ x. P x × Q x) xs
all-both P Q [] ps qs = tt
all-both P Q (x ∷ xs) ps qs = ((ps.0, qs.0), all-both P Q xs ps.1 qs.1)

-- what is known of the past of a quiet lawful journal in which nothing runs
pub record IsResting (past : Past) : Type 0 where
  pub numbers : Numbered (records past)
  pub older : AllByRecursion HasOlderInputs (records past)
  pub made : AllByRecursion (HasMadeInputs (records past)) (records past)
  pub saves : (f : FileId) (id : RecordId) → record_at past f.rec ≡ Some (kind.Put id) → f.out ≡ 0 → is_saved past f ≡ true
  pub idle : (made : RecordId) → is_running past made ≡ false

-- some record can be run
abbrev pub SomeCanRun : Past → Type 0
SomeCanRun past = (s : Record) × ((j : ℕ) × (slice_get (records past) j ≡ Some s)) × (can_run past s ≡ true)

-- an input that is read, of an older record
abbrev pub IsInputOf : Past → Record → FileId → Type 0
IsInputOf past r f = (f.rec.0 < (id_of r).0) × IsOutputOf (records past) f × (has_input f r ≡ true)

maker-runs : (past : Past) → IsResting past → (i : ℕ) (r : Record) → slice_get (records past) i ≡ Some r → is_task past (id_of r) ≡ true →
    (f : FileId) (o : Option Record) → slice_get (records past) f.rec.0 ≡ o → has_output o f.out ≡ true → f.rec.0 < i → has_input f r ≡ true → is_available past f ≡ false →
    ((q : Record) → slice_get (records past) f.rec.0 ≡ Some q → is_task past (id_of q) ≡ true → SomeCanRun past) → SomeCanRun past
maker-runs past rest i r at task f None e out less reads missing go = absurd (cc)
maker-runs past rest i r at task f (Some (kind.Put id)) e out less reads missing go =
    let small : f.out < 1 = ltb-true f.out 1 out in
    let first : f.out ≡ 0 = omega arith in
    let there : is_available past f ≡ true = or-right (is_resident past f) (is_saved past f) (rest.saves f id e first) in
    absurd (let no : true ≡ false = sym there ∙ missing in cc)
maker-runs past rest i r at task f (Some (kind.Job id core prio inputs outputs)) e out less reads missing go =
    let q : Record = kind.Job id core prio inputs outputs in
    let number : id_of q ≡ record { 0 = f.rec.0 } = rest.numbers f.rec.0 q e in
    let small : f.out < outputs = ltb-true f.out outputs out in
    go q e (maker-is-task past f.rec.0 i q r f rest.numbers e at less task (rest.idle (id_of r)) reads (sym number) small missing refl)

runs-if : (past : Past) → IsResting past → (i : ℕ) (r : Record) (b : Bool) → slice_get (records past) i ≡ Some r → is_task past (id_of r) ≡ true →
    all_available past (inputs_of r) ≡ b →
    ((f : FileId) (q : Record) → f.rec.0 < i → slice_get (records past) f.rec.0 ≡ Some q → is_task past (id_of q) ≡ true → SomeCanRun past) → SomeCanRun past
runs-if past rest i r true at task e go = (r, (i, at), and_from _ _ (and_from _ _ task (ap not (rest.idle (id_of r)))) e)
runs-if past rest i r false at task e go =
    let number : (id_of r).0 ≡ i = ap (λ (id : RecordId). id.0) (rest.numbers i r at) in
    let all = all-both (λ f. f.rec.0 < (id_of r).0) (λ f. IsOutputOf (records past) f × (has_input f r ≡ true)) (inputs_of r)
    (all-get HasOlderInputs (records past) i r rest.older at)
    (all-both (IsOutputOf (records past)) (λ f. has_input f r ≡ true) (inputs_of r) (all-get (HasMadeInputs (records past)) (records past) i r rest.made at) (each-among (inputs_of r))) in
    let it = missing-input past (λ f. (f.rec.0 < (id_of r).0) × (IsOutputOf (records past) f × (has_input f r ≡ true))) (inputs_of r) all e in
    let below : it.0.rec.0 < (id_of r).0 = it.1.0 in
    let less : it.0.rec.0 < i = omega arith in
    maker-runs past rest i r at task it.0 (slice_get (records past) it.0.rec.0) refl it.1.1.0 less it.1.1.1 it.2 (λ q e t. go it.0 q less e t)

task-runs : (past : Past) → IsResting past → (k i : ℕ) (r : Record) → i < k → slice_get (records past) i ≡ Some r → is_task past (id_of r) ≡ true → SomeCanRun past
task-runs past rest zero i r small at task = absurd (omega arith)
task-runs past rest (suc k) i r small at task =
    runs-if past rest i r (all_available past (inputs_of r)) at task refl
    (λ f q less e t. task-runs past rest k f.rec.0 q (omega arith) e t)

first-some : (before : Record → Record → Bool) (p : Record → Bool) (x : Record) (xs : List Record) (b : Bool) → p x ≡ b →
    ((p x ≡ true) ⊎ (is_some (first_by before (filter p xs)) ≡ true)) → is_some (first_by before (cond b (x ∷ filter p xs) (filter p xs))) ≡ true
first-some before p x xs true e h = refl
first-some before p x xs false e (inl t) = absurd (let no : true ≡ false = sym t ∙ e in cc)
first-some before p x xs false e (inr h) = h

some-first : (before : Record → Record → Bool) (p : Record → Bool) (rs : List Record) (j : ℕ) (s : Record) → slice_get rs j ≡ Some s → p s ≡ true →
    is_some (first_by before (filter p rs)) ≡ true
some-first before p [] j s at h = absurd (cc)
some-first before p (x ∷ xs) zero s at h = let same : x ≡ s = cc in first-some before p x xs (p x) refl (inl (ap p same ∙ h))
some-first before p (x ∷ xs) (suc j) s at h = first-some before p x xs (p x) refl (inr (some-first before p xs j s at h))

some-map : {A B : Type 0} (g : A → B) (o : Option A) → is_some (option_map g o) ≡ is_some o
some-map g None = refl
some-map g (Some a) = refl

-- where nothing runs and there is a task, a record is next
pub resting-next : (order : OrderRule) (past : Past) → IsResting past → (i : ℕ) (r : Record) → slice_get (records past) i ≡ Some r → is_task past (id_of r) ≡ true → is_some (next order past) ≡ true
resting-next order past rest i r at task =
    let runs = task-runs past rest (suc i) i r (omega arith) at task in
    ap is_some (next-first order past)
    ∙ some-map id_of (first_by (goes_before order past) (ready past)) ∙ some-first (goes_before order past) (can_run past) (records past) runs.1.0 runs.0 runs.1.1 runs.2

-- a lawful journal in which nothing runs is at rest
pub lawful-rests : {T : Type 0} (header : Header) (events : List (Event T)) → is_lawful header events ≡ true →
    ((made : RecordId) → is_running (without_tickets events) made ≡ false) → IsResting (without_tickets events)
lawful-rests header events lawful idle =
    let ok = (and_parts (all_permitted lawful_judge header events) (is_quiet lawful_judge events) lawful).0 in
    record {
      numbers = subst Numbered (sym (records-with (λ _. tt) events)) (all-numbered lawful_judge header events ok);
      older = subst (AllByRecursion HasOlderInputs) (sym (records-with (λ _. tt) events)) (all-ordered lawful_judge header events ok).older;
      made = (past-made lawful_judge header events ok).inputs;
      saves = quiet-saves lawful_judge header events lawful;
      idle = idle;
    }
