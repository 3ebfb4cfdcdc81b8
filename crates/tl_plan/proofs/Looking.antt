-- What is looked up in what is kept is as the past says.
use Rattle.std.proofs.Common.{◌≡◌, ◌∙◌, arith, ℕ, zero, suc, ◌+◌, ◌<◌, ◌≤◌, ◌⊎◌, inl, inr, Bool, true, false, ◌&&◌, ◌||◌, not, if◌then◌else◌, List, [], ◌∷◌, filter, length, map, slice_get, Option, Some, None, is_some, refl, sym, ap, subst}
use Rattle.std.specs.List.{AllByRecursion, list_any, list_all}
use Rattle.std.proofs.lemmas.Bool.{lt-ltb, ltb-true}
use Rattle.std.proofs.lemmas.Bool.Decides.{Decides-eqb}
use Rattle.tl_types.specs.declared.actor.Actor.{Actor}
use Rattle.tl_types.specs.declared.file_id.FileId.{FileId}
use Rattle.tl_types.specs.declared.record_id.RecordId.{RecordId}
use Rattle.tl_model.specs.declared.record.Record.{Record}
use Rattle.tl_model.specs.Past.{Past}
use Rattle.tl_model.specs.Tables.{Table, answer_at, downward}
use Rattle.tl_model.specs.History.{files_from, has_input, has_output, id_of, inputs_of, output_count, records}
use Rattle.tl_model.specs.Actors.{actors, is_read, is_running, open_read}
use Rattle.tl_model.specs.Residency.{is_available, is_resident, is_saved, place}
use Rattle.tl_model.specs.Plan.{can_run, has_id, is_awaited, is_ready, is_task, is_wanted, task_among, tasks}
use Rattle.tl_laws.proofs.Numbering.{below_or_not}
use Rattle.tl_laws.specs.Made.{HasMadeInputs, IsOutputOf}
use Rattle.tl_laws.proofs.Order.{among-holds}
use Rattle.tl_steps.specs.Steps.{is_read_at, is_running_at, seat_of}
use Rattle.tl_steps.specs.Within.{IsWithin}
use Rattle.tl_steps.proofs.Lists.{get_map, get_map_none}
use Rattle.tl_steps.proofs.Files.{not-true}
use Rattle.tl_steps.proofs.Seats.{read-same, running-same}
use Rattle.tl_plan.specs.declared.output.Output.{Output}
use Rattle.tl_plan.specs.Data.{PlanData, awaited_at, file_at, here_at, place_at, read_of, ready_of, row_at, row_or_none, task_of}
use Rattle.tl_plan.specs.Standing.{StandsFor, files_with, job_in, output_with, outputs_with}
use Rattle.tl_plan.proofs.Marks.{StartsAt, starts}

-- ---- records

abbrev has-number : RecordId → Record → Type 0
has-number made r = has_id made r ≡ true

same-number : (made : RecordId) (r : Record) → made.0 ≡ (id_of r).0 → has_id made r ≡ true
same-number made r e = (Decides-eqb made.0 (id_of r).0).1 e

other-number : (made : RecordId) (r : Record) → (made.0 ≡ (id_of r).0 → ⊥) → has_id made r ≡ false
other-number made r differs = not-true (has_id made r) (λ t. differs ((Decides-eqb made.0 (id_of r).0).0 t))

answer-get : (past : Past) (answer : Table Record Bool → Record → Bool) (made : RecordId) (n : ℕ) (rs : List Record) (k : ℕ) → StartsAt n rs → made.0 ≡ n + k →
    task_of (slice_get (map (job_in past) (downward answer rs)) k) ≡ answer_at (has_id made) false (downward answer rs)
answer-get past answer made n [] zero from place = refl
answer-get past answer made n [] (suc k) from place = refl
answer-get past answer made n (r ∷ rs) zero from place =
    let id : (id_of r).0 ≡ n = from.0 in
    ap (λ b. if b then answer (downward answer rs) r else answer_at (has_id made) false (downward answer rs)) (sym (same-number made r (omega arith)))
answer-get past answer made n (r ∷ rs) (suc k) from place =
    let id : (id_of r).0 ≡ n = from.0 in
    answer-get past answer made (suc n) rs k from.1 (omega arith)
    ∙ ap (λ b. if b then answer (downward answer rs) r else answer_at (has_id made) false (downward answer rs)) (sym (other-number made r (λ e. omega arith)))

pub task-looked : (plan : PlanData) (past : Past) (made : RecordId) → StandsFor plan past → task_of (slice_get plan.jobs made.0) ≡ is_task past made
task-looked plan past made stands =
    ap (λ jobs. task_of (slice_get jobs made.0)) stands.jobs
    ∙ answer-get past (task_among past) made 0 (records past) made.0 (starts (records past) stands.within.numbered) (omega arith)

-- ---- files

get-file : (g : FileId → Output) (id : RecordId) (k n m t : ℕ) → t ≡ k + m → m < n → slice_get (map g (files_from id k n)) m ≡ Some (g (record { rec = id; out = t }))
get-file g id k zero m t place less = absurd (omega arith)
get-file g id k (suc n) zero t place less = let same : k ≡ t = omega arith in ap (λ j. Some (g (record { rec = id; out = j }))) same
get-file g id k (suc n) (suc m) t place less = get-file g id (k + 1) n m t (omega arith) (omega arith)

no-file : (g : FileId → Output) (id : RecordId) (k n m : ℕ) → n ≤ m → slice_get (map g (files_from id k n)) m ≡ None
no-file g id k zero m less = refl
no-file g id k (suc n) zero less = absurd (omega arith)
no-file g id k (suc n) (suc m) less = no-file g id (k + 1) n m (omega arith)

-- a file is found where it is an output of an accepted record
abbrev Looked : Past → (FileId → Bool) → FileId → Option Output → Type 0
Looked past awaits f found = (IsOutputOf (records past) f × (found ≡ Some (output_with past awaits f))) ⊎ ((IsOutputOf (records past) f → ⊥) × (found ≡ None))

looked-in : (past : Past) (awaits : FileId → Bool) (f : FileId) (r : Record) → slice_get (records past) f.rec.0 ≡ Some r → id_of r ≡ f.rec →
    Looked past awaits f (slice_get (outputs_with past awaits r) f.out)
looked-in past awaits f r at id = elim (below_or_not f.out (output_count r)) [
  | inl h ↦ inl (
    ap (λ o. has_output o f.out) at ∙ lt-ltb f.out (output_count r) h,
    get-file (output_with past awaits) (id_of r) 0 (output_count r) f.out f.out (omega arith) h
        ∙ ap (λ made. Some (output_with past awaits (record { rec = made; out = f.out }))) id,
  )
  | inr h ↦ inr (
    (λ is.
        let less : f.out < output_count r = ltb-true f.out (output_count r) (ap (λ o. has_output o f.out) (sym at) ∙ is) in
        absurd (omega arith)),
    no-file (output_with past awaits) (id_of r) 0 (output_count r) f.out h,
  )
]

looked-at : (past : Past) (awaits : FileId → Bool) (f : FileId) (o : Option Record) → slice_get (records past) f.rec.0 ≡ o → IsWithin past →
    Looked past awaits f (slice_get (row_at f.rec.0 (files_with past awaits (records past))) f.out)
looked-at past awaits f None at within =
    inr (
      (λ is. let never : false ≡ true = ap (λ o. has_output o f.out) (sym at) ∙ is in absurd (cc)),
      ap (λ o. slice_get (row_or_none o) f.out) (get_map_none (outputs_with past awaits) (records past) f.rec.0 at),
    )
looked-at past awaits f (Some r) at within =
    subst (Looked past awaits f) (ap (λ o. slice_get (row_or_none o) f.out) (sym (get_map (outputs_with past awaits) (records past) f.rec.0 r at)))
    (looked-in past awaits f r at (within.numbered f.rec.0 r at))

pub file-looked : (plan : PlanData) (past : Past) (f : FileId) → StandsFor plan past → Looked past (is_awaited past (tasks past)) f (file_at f plan.files)
file-looked plan past f stands =
    subst (λ files. Looked past (is_awaited past (tasks past)) f (file_at f files)) (sym stands.files)
    (looked-at past (is_awaited past (tasks past)) f (slice_get (records past) f.rec.0) refl stands.within)

not-some : {A : Type 0} (o : Option A) → (is_some o ≡ true → ⊥) → o ≡ None
not-some None never = refl
not-some (Some x) never = absurd (never refl)

pub place-looked : (plan : PlanData) (past : Past) (f : FileId) → StandsFor plan past → place_at (file_at f plan.files) ≡ place past f
place-looked plan past f stands = elim (file-looked plan past f stands) [
  | inl h ↦ ap place_at h.1
  | inr h ↦ ap place_at h.1 ∙ sym (not-some (place past f) (λ is. h.0 (stands.within.placed f is)))
]

pub here-looked : (plan : PlanData) (past : Past) (f : FileId) → StandsFor plan past → here_at (file_at f plan.files) ≡ is_available past f
here-looked plan past f stands = elim (file-looked plan past f stands) [
  | inl h ↦ ap here_at h.1
  | inr h ↦ ap here_at h.1
      ∙ (λ i. sym (not-true (is_resident past f) (λ is. h.0 (stands.within.placed f is))) i || sym (not-true (is_saved past f) (λ is. h.0 (stands.within.saved f is))) i)
]

-- ---- who waits

or-false : (a b c : Bool) → a ≡ false → b ≡ false → ((a && c) || b) ≡ false
or-false true b c e h = absurd (cc)
or-false false b c e h = h

none-awaits : (past : Past) (all : List Record) (f : FileId) (answer : Table Record Bool → Record → Bool) (rs : List Record) → (IsOutputOf all f → ⊥) →
    AllByRecursion (HasMadeInputs all) rs → is_awaited past (downward answer rs) f ≡ false
none-awaits past all f answer [] never made = refl
none-awaits past all f answer (r ∷ rs) never made =
    first-awaits past f r (answer (downward answer rs) r) (downward answer rs)
    (not-true (has_input f r) (λ is. never (among-holds (IsOutputOf all) f (inputs_of r) made.0 is)))
    (none-awaits past all f answer rs never made.1)
  where
    first-awaits : (past : Past) (f : FileId) (r : Record) (b : Bool) (table : Table Record Bool) → has_input f r ≡ false → is_awaited past table f ≡ false →
        is_awaited past ((r, b) ∷ table) f ≡ false
    first-awaits past f r true table e h = or-false (has_input f r) (is_awaited past table f) (not (is_running past (id_of r))) e h
    first-awaits past f r false table e h = h

pub awaited-looked : (plan : PlanData) (past : Past) (f : FileId) → StandsFor plan past → awaited_at (file_at f plan.files) ≡ is_awaited past (tasks past) f
awaited-looked plan past f stands = elim (file-looked plan past f stands) [
  | inl h ↦ ap awaited_at h.1
  | inr h ↦ ap awaited_at h.1 ∙ sym (none-awaits past (records past) f (task_among past) (records past) h.0 stands.within.inputs)
]

pub read-looked : (plan : PlanData) (past : Past) (f : FileId) → StandsFor plan past → is_read_at plan.seats f ≡ is_read past f
read-looked plan past f stands = ap (λ seats. is_read_at seats f) stands.seats ∙ read-same past f

pub running-looked : (plan : PlanData) (past : Past) (made : RecordId) → StandsFor plan past → is_running_at plan.seats made ≡ is_running past made
running-looked plan past made stands = ap (λ seats. is_running_at seats made) stands.seats ∙ running-same past made

pub wanted-looked : (plan : PlanData) (past : Past) (f : FileId) → StandsFor plan past → (is_read_at plan.seats f || awaited_at (file_at f plan.files)) ≡ is_wanted past f
wanted-looked plan past f stands = λ i. read-looked plan past f stands i || awaited-looked plan past f stands i

-- ---- what each actor reads

-- these actors are numbered one after another, from this number on
abbrev CountsFrom : ℕ → List Actor → Type 0
CountsFrom n [] = Unit {0}
CountsFrom n (a ∷ xs) = (a.0 ≡ n) × CountsFrom (suc n) xs

counted : CountsFrom 0 actors
counted = (refl, (refl, (refl, (refl, (refl, (refl, (refl, (refl, (refl, (refl, (refl, (refl, (refl, (refl, (refl, (refl, tt))))))))))))))))

get-actor : (actor : Actor) (n : ℕ) (xs : List Actor) (k : ℕ) → CountsFrom n xs → actor.0 ≡ n + k → k < length xs → slice_get xs k ≡ Some actor
get-actor actor n [] k from place less = absurd (omega arith)
get-actor actor n (a ∷ xs) zero from place less =
    let number : a.0 ≡ n = from.0 in
    let same : a.0 ≡ actor.0 = omega arith in
    ap (λ (m : ℕ). Some (record { 0 = m })) same
get-actor actor n (a ∷ xs) (suc k) from place less = get-actor actor (suc n) xs k from.1 (omega arith) (omega arith)

no-actor : (xs : List Actor) (k : ℕ) → length xs ≤ k → slice_get xs k ≡ None
no-actor [] k more = refl
no-actor (a ∷ xs) zero more = absurd (omega arith)
no-actor (a ∷ xs) (suc k) more = no-actor xs k (omega arith)

pub reading-looked : (plan : PlanData) (past : Past) (actor : Actor) → StandsFor plan past → actor.0 < 16 → read_of (slice_get plan.seats actor.0) ≡ open_read past actor
reading-looked plan past actor stands known =
    ap (λ seats. read_of (slice_get seats actor.0)) stands.seats
    ∙ ap read_of (get_map (seat_of past) actors actor.0 actor (get-actor actor 0 actors actor.0 counted (omega arith) known))

pub no-reading : (plan : PlanData) (past : Past) (actor : Actor) → StandsFor plan past → 16 ≤ actor.0 → read_of (slice_get plan.seats actor.0) ≡ None
no-reading plan past actor stands unknown =
    ap (λ seats. read_of (slice_get seats actor.0)) stands.seats
    ∙ ap read_of (get_map_none (seat_of past) actors actor.0 (no-actor actors actor.0 unknown))

-- ---- what can be run

any-if : (made : RecordId) (r : Record) (rs : List Record) (b : Bool) → list_any (has_id made) (if b then r ∷ rs else rs) ≡ ((b && has_id made r) || list_any (has_id made) rs)
any-if made r rs true = refl
any-if made r rs false = refl

none-later : (p : Record → Bool) (made : RecordId) (n : ℕ) (rs : List Record) → StartsAt n rs → made.0 < n → list_any (has_id made) (filter p rs) ≡ false
none-later p made n [] from less = refl
none-later p made n (r ∷ rs) from less =
    let id : (id_of r).0 ≡ n = from.0 in
    any-if made r (filter p rs) (p r)
    ∙ ap (λ b. (p r && b) || list_any (has_id made) (filter p rs)) (other-number made r (λ e. omega arith))
    ∙ last (p r) (list_any (has_id made) (filter p rs)) (none-later p made (suc n) rs from.1 (omega arith))
  where
    last : (a b : Bool) → b ≡ false → ((a && false) || b) ≡ false
    last true b h = h
    last false b h = h

or-nothing : (a b : Bool) → b ≡ false → ((a && true) || b) ≡ a
or-nothing true b h = refl
or-nothing false b h = h

nothing-or : (a b : Bool) → ((a && false) || b) ≡ b
nothing-or true b = refl
nothing-or false b = refl

abbrev passes : (Record → Bool) → Option Record → Bool
passes p None = false
passes p (Some r) = p r

any-get : (p : Record → Bool) (made : RecordId) (n : ℕ) (rs : List Record) (k : ℕ) → StartsAt n rs → made.0 ≡ n + k →
    list_any (has_id made) (filter p rs) ≡ passes p (slice_get rs k)
any-get p made n [] zero from place = refl
any-get p made n [] (suc k) from place = refl
any-get p made n (r ∷ rs) zero from place =
    let id : (id_of r).0 ≡ n = from.0 in
    any-if made r (filter p rs) (p r)
    ∙ ap (λ b. (p r && b) || list_any (has_id made) (filter p rs)) (same-number made r (omega arith))
    ∙ or-nothing (p r) (list_any (has_id made) (filter p rs)) (none-later p made (suc n) rs from.1 (omega arith))
any-get p made n (r ∷ rs) (suc k) from place =
    let id : (id_of r).0 ≡ n = from.0 in
    any-if made r (filter p rs) (p r)
    ∙ ap (λ b. (p r && b) || list_any (has_id made) (filter p rs)) (other-number made r (λ e. omega arith))
    ∙ nothing-or (p r) (list_any (has_id made) (filter p rs))
    ∙ any-get p made (suc n) rs k from.1 (omega arith)

-- the job at a place is that of the record there
job-at : (past : Past) (answer : Table Record Bool → Record → Bool) (rs : List Record) (k : ℕ) (r : Record) → slice_get rs k ≡ Some r →
    (b : Bool) × (slice_get (map (job_in past) (downward answer rs)) k ≡ Some (job_in past (r, b)))
job-at past answer [] k r at = absurd (cc)
job-at past answer (x ∷ rs) zero r at =
    let same : x ≡ r = cc in
    (answer (downward answer rs) x, ap (λ y. Some (job_in past (y, answer (downward answer rs) x))) same)
job-at past answer (x ∷ rs) (suc k) r at = job-at past answer rs k r at

no-job : (past : Past) (answer : Table Record Bool → Record → Bool) (rs : List Record) (k : ℕ) → slice_get rs k ≡ None →
    slice_get (map (job_in past) (downward answer rs)) k ≡ None
no-job past answer [] k at = refl
no-job past answer (x ∷ rs) zero at = absurd (cc)
no-job past answer (x ∷ rs) (suc k) at = no-job past answer rs k at

ready-at : (plan : PlanData) (past : Past) (made : RecordId) (o : Option Record) → StandsFor plan past → slice_get (records past) made.0 ≡ o →
    ready_of plan.seats plan.files (slice_get plan.jobs made.0) ≡ passes (can_run past) o
ready-at plan past made None stands at =
    ap (ready_of plan.seats plan.files) (ap (λ jobs. slice_get jobs made.0) stands.jobs ∙ no-job past (task_among past) (records past) made.0 at)
ready-at plan past made (Some r) stands at =
    let job = job-at past (task_among past) (records past) made.0 r at in
    let here = ap (λ jobs. slice_get jobs made.0) stands.jobs ∙ job.1 in
    let id : made ≡ id_of r = sym (stands.within.numbered made.0 r at) in
    let answer : job.0 ≡ is_task past (id_of r) = ap task_of (sym here) ∙ task-looked plan past made stands ∙ ap (is_task past) id in
    ap (ready_of plan.seats plan.files) here
    ∙ (λ i. answer i && not (running-looked plan past (id_of r) stands i) && list_all (λ f. here-looked plan past f stands i) (inputs_of r))

pub ready-looked : (plan : PlanData) (past : Past) (made : RecordId) → StandsFor plan past → ready_of plan.seats plan.files (slice_get plan.jobs made.0) ≡ is_ready past made
ready-looked plan past made stands =
    ready-at plan past made (slice_get (records past) made.0) stands refl
    ∙ sym (any-get (can_run past) made 0 (records past) made.0 (starts (records past) stands.within.numbered) (omega arith))
