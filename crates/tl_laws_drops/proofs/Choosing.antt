-- A file that is dropped while it isn't wanted changes nothing of what can run, of priorities, and of what is next.
use Rattle.std.proofs.Common.{◌≡◌, ℕ, suc, max, ◌==◌, Bool, true, false, not, cond, ◌&&◌, ◌||◌, if◌then◌else◌, List, [], ◌∷◌, map, filter, slice_get, Option, Some, None, option_map, refl, sym, ap, ◌∙◌}
use Rattle.std.specs.List.{list_any, find}
use Rattle.std.proofs.lemmas.Bool.{both_ways, or_right}
use Rattle.tl_types.specs.Same.{file_same, file_same-Decides, record_same-Decides}
use Rattle.tl_types.specs.declared.actor.Actor.{Actor}
use Rattle.tl_types.specs.declared.file_id.FileId.{FileId}
use Rattle.tl_types.specs.declared.record_id.RecordId.{RecordId}
use Rattle.tl_types.specs.declared.worker_id.WorkerId.{WorkerId}
use Rattle.tl_model.specs.declared.header.OrderRule.{OrderRule}
use Rattle.tl_model.specs.declared.header.OrderRule.TheVariants.{Strict, Shares}
use Rattle.tl_model.specs.declared.record.Record.{Record}
use Rattle.tl_model.specs.Past.{Past}
use Rattle.tl_model.specs.Tables.{Table, downward, answer_at, chosen, first_by}
use Rattle.tl_model.specs.History.{records, id_of, inputs_of, outputs_of, has_input}
use Rattle.tl_model.specs.Actors.{actors, is_read, is_running}
use Rattle.tl_model.specs.Residency.{is_available, all_available}
use Rattle.tl_model.specs.Plan.{has_id, is_awaited, task_among, tasks, is_task, is_wanted, is_missing_input, waits, greatest, prio_of_read, prio_of_reads, prio_of_own, prio_of_waiting, prio_among, prios, prio, can_run, ready, has_turn_before, level, first_at, next}
use Rattle.tl_laws.specs.Numbers.{Numbered}
use Rattle.tl_laws_drops.specs.Drops.{after_drop}
use Rattle.tl_laws_drops.proofs.Drop.{other-way, read-same, running-same, available-other}
use Rattle.tl_laws_drops.proofs.TasksKept.{is-task-same}
use Rattle.tl_laws_drops.specs.Drops.{HasOneOfEach}

-- ---- records and their numbers

-- records that are numbered in order are such
pub numbered-one : (rs : List Record) → Numbered rs → HasOneOfEach rs
numbered-one rs n = λ i j r s at_r at_s same.
    let place : i ≡ j = ap (λ (id : RecordId). id.0) (sym (n i r at_r) ∙ same ∙ n j s at_s) in
    let both : Some r ≡ Some s = sym at_r ∙ ap (slice_get rs) place ∙ at_s in
    cc

or-right-false : (a b : Bool) → (a || b) ≡ false → b ≡ false
or-right-false true b h = absurd (cc)
or-right-false false b h = h

or-either-false : (a b : Bool) → (a || b) ≡ false → (a ≡ false) × (b ≡ false)
or-either-false true b h = absurd (cc)
or-either-false false b h = (refl, h)

chosen-step : (test here : Record → Bool) (x : Record) (found answer : Bool) (table : Table Record Bool) → here x ≡ found → (here x ≡ true → test x ≡ true) →
    (answer_at here false table ≡ true → list_any test (chosen table) ≡ true) →
    (if found then answer else answer_at here false table) ≡ true → list_any test (if answer then x ∷ chosen table else chosen table) ≡ true
chosen-step test here x true true table e passes rest h = ap (λ b. b || list_any test (chosen table)) (passes e)
chosen-step test here x true false table e passes rest h = absurd (cc)
chosen-step test here x false true table e passes rest h = or_right (test x) (list_any test (chosen table)) (rest h)
chosen-step test here x false false table e passes rest h = rest h

-- where the first record of a number has the answer yes, and each of that number passes a test, a chosen record passes it
chosen-at : (answer : Table Record Bool → Record → Bool) (test here : Record → Bool) (rs : List Record) →
    ((i : ℕ) (s : Record) → slice_get rs i ≡ Some s → here s ≡ true → test s ≡ true) →
    answer_at here false (downward answer rs) ≡ true → list_any test (chosen (downward answer rs)) ≡ true
chosen-at answer test here [] passes h = absurd (cc)
chosen-at answer test here (x ∷ xs) passes h =
    let table : Table Record Bool = downward answer xs in
    chosen-step test here x (here x) (answer table x) table refl (passes 0 x refl) (chosen-at answer test here xs (λ i s at. passes (suc i) s at)) h

-- ---- an unwanted file is no input of a task that isn't running

abbrev pub Spares : Past → FileId → Record → Type 0
Spares past f r = is_task past (id_of r) ≡ true → is_running past (id_of r) ≡ false → has_input f r ≡ false

spares-at : (past : Past) (f : FileId) → is_wanted past f ≡ false → HasOneOfEach (records past) → (i : ℕ) (r : Record) → slice_get (records past) i ≡ Some r →
    is_task past (id_of r) ≡ true → is_running past (id_of r) ≡ false → (b : Bool) → has_input f r ≡ b → has_input f r ≡ false
spares-at past f unwanted one i r at task idle false e = e
spares-at past f unwanted one i r at task idle true e =
    let test : Record → Bool = λ s. has_input f s && not (is_running past (id_of s)) in
    let here : test r ≡ true = (λ k. e k && not (idle k)) in
    let awaited : is_awaited past (tasks past) f ≡ true =
    chosen-at (task_among past) test (has_id (id_of r)) (records past)
    (λ j s at_s same. ap test (sym (one i j r s at at_s ((record_same-Decides (id_of r) (id_of s)).0 same))) ∙ here) task in
    absurd (both_ways (is_awaited past (tasks past) f) (or-right-false (is_read past f) (is_awaited past (tasks past) f) unwanted) awaited)

pub spares-all : (past : Past) (f : FileId) → is_wanted past f ≡ false → HasOneOfEach (records past) →
    (i : ℕ) (r : Record) → slice_get (records past) i ≡ Some r → Spares past f r
spares-all past f unwanted one i r at task idle = spares-at past f unwanted one i r at task idle (has_input f r) refl

-- ---- what waits for what

guarded : (a b c d : Bool) → (a ≡ true → b ≡ false → c ≡ d) → (a && (not b && c)) ≡ (a && (not b && d))
guarded true true c d h = refl
guarded true false c d h = h refl refl
guarded false b c d h = refl

guarded-left : (a b c d : Bool) → (a ≡ true → b ≡ false → c ≡ d) → (a && not b && c) ≡ (a && not b && d)
guarded-left true true c d h = refl
guarded-left true false c d h = h refl refl
guarded-left false b c d h = refl

missing-at : (actor : Actor) (worker : WorkerId) (f : FileId) (past : Past) (r : Record) → has_input f r ≡ false → (g : FileId) (b : Bool) → file_same g f ≡ b →
    is_missing_input (after_drop actor worker f past) r g ≡ is_missing_input past r g
missing-at actor worker f past r none g true e =
    let never : has_input g r ≡ false = ap (λ (h : FileId). has_input h r) ((file_same-Decides g f).0 e) ∙ none in
    ap (λ b. b && not (is_available (after_drop actor worker f past) g)) never ∙ sym (ap (λ b. b && not (is_available past g)) never)
missing-at actor worker f past r none g false e = ap (λ b. has_input g r && not b) (available-other actor worker f past g e)

missing-same : (actor : Actor) (worker : WorkerId) (f : FileId) (past : Past) (r : Record) → has_input f r ≡ false →
    (g : FileId) → is_missing_input (after_drop actor worker f past) r g ≡ is_missing_input past r g
missing-same actor worker f past r none g = missing-at actor worker f past r none g (file_same g f) refl

pub waits-same : (actor : Actor) (worker : WorkerId) (f : FileId) (past : Past) → is_wanted past f ≡ false →
    (reader : Record) → Spares past f reader → (maker : Record) → waits (after_drop actor worker f past) reader maker ≡ waits past reader maker
waits-same actor worker f past unwanted reader spares maker =
    let later : Past = after_drop actor worker f past in
    (λ i. is-task-same actor worker f past unwanted (id_of reader) i
    && (not (running-same actor worker f past (id_of reader) i) && list_any (is_missing_input later reader) (outputs_of maker)))
    ∙ guarded (is_task past (id_of reader)) (is_running past (id_of reader)) (list_any (is_missing_input later reader) (outputs_of maker))
    (list_any (is_missing_input past reader) (outputs_of maker))
    (λ task idle. λ i. list_any (λ g. missing-same actor worker f past reader (spares task idle) g i) (outputs_of maker))

-- ---- priorities

-- those that wait for a record are the same
waiting-same : (actor : Actor) (worker : WorkerId) (f : FileId) (past : Past) → is_wanted past f ≡ false → (answer : Table Record ℕ → Record → ℕ) (rs : List Record) →
    ((i : ℕ) (s : Record) → slice_get rs i ≡ Some s → Spares past f s) → (r : Record) →
    prio_of_waiting (after_drop actor worker f past) (downward answer rs) r ≡ prio_of_waiting past (downward answer rs) r
waiting-same actor worker f past unwanted answer [] spares r = refl
waiting-same actor worker f past unwanted answer (x ∷ xs) spares r =
    let rest = waiting-same actor worker f past unwanted answer xs (λ i s at. spares (suc i) s at) r in
    λ i. max (if waits-same actor worker f past unwanted x (spares 0 x refl) r i then answer (downward answer xs) x else 0) (rest i)

reads-same : (actor : Actor) (worker : WorkerId) (f : FileId) (past : Past) (r : Record) → prio_of_reads (after_drop actor worker f past) r ≡ prio_of_reads past r
reads-same actor worker f past r = λ i. greatest (map (λ a. prio_of_read r (read-same actor worker f past a i)) actors)

table-same : (actor : Actor) (worker : WorkerId) (f : FileId) (past : Past) → is_wanted past f ≡ false → (rs : List Record) →
    ((i : ℕ) (s : Record) → slice_get rs i ≡ Some s → Spares past f s) →
    downward (prio_among (after_drop actor worker f past)) rs ≡ downward (prio_among past) rs
table-same actor worker f past unwanted [] spares = refl
table-same actor worker f past unwanted (r ∷ rs) spares =
    let later : Past = after_drop actor worker f past in
    let table : Table Record ℕ = downward (prio_among past) rs in
    let rest : (i : ℕ) (s : Record) → slice_get rs i ≡ Some s → Spares past f s = λ i s at. spares (suc i) s at in
    ap (λ (u : Table Record ℕ). (r, prio_among later u r) ∷ u) (table-same actor worker f past unwanted rs rest)
    ∙ (λ i. (r, max (prio_of_own past r) (max (reads-same actor worker f past r i) (waiting-same actor worker f past unwanted (prio_among past) rs rest r i))) ∷ table)

pub prios-same : (actor : Actor) (worker : WorkerId) (f : FileId) (past : Past) → is_wanted past f ≡ false → HasOneOfEach (records past) →
    prios (after_drop actor worker f past) ≡ prios past
prios-same actor worker f past unwanted one = table-same actor worker f past unwanted (records past) (spares-all past f unwanted one)

pub prio-same : (actor : Actor) (worker : WorkerId) (f : FileId) (past : Past) → is_wanted past f ≡ false → HasOneOfEach (records past) →
    (made : RecordId) → prio (after_drop actor worker f past) made ≡ prio past made
prio-same actor worker f past unwanted one made = ap (answer_at (has_id made) 0) (prios-same actor worker f past unwanted one)

-- ---- what can run, and what is next

inputs-same : (actor : Actor) (worker : WorkerId) (f : FileId) (past : Past) (gs : List FileId) → list_any (file_same f) gs ≡ false →
    all_available (after_drop actor worker f past) gs ≡ all_available past gs
inputs-same actor worker f past [] none = refl
inputs-same actor worker f past (g ∷ gs) none =
    let parts = or-either-false (file_same f g) (list_any (file_same f) gs) none in
    let rest = inputs-same actor worker f past gs parts.1 in
    λ i. available-other actor worker f past g (other-way f g (file_same g f) refl parts.0) i && rest i

pub can-run-same : (actor : Actor) (worker : WorkerId) (f : FileId) (past : Past) → is_wanted past f ≡ false → (r : Record) → Spares past f r →
    can_run (after_drop actor worker f past) r ≡ can_run past r
can-run-same actor worker f past unwanted r spares =
    let later : Past = after_drop actor worker f past in
    (λ i. is-task-same actor worker f past unwanted (id_of r) i && not (running-same actor worker f past (id_of r) i) && all_available later (inputs_of r))
    ∙ guarded-left (is_task past (id_of r)) (is_running past (id_of r)) (all_available later (inputs_of r)) (all_available past (inputs_of r))
    (λ task idle. inputs-same actor worker f past (inputs_of r) (spares task idle))

filter-same : (p q : Record → Bool) (rs : List Record) → ((i : ℕ) (r : Record) → slice_get rs i ≡ Some r → p r ≡ q r) → filter p rs ≡ filter q rs
filter-same p q [] same = refl
filter-same p q (r ∷ rs) same =
    ap (λ b. cond b (r ∷ filter p rs) (filter p rs)) (same 0 r refl)
    ∙ ap (λ (kept : List Record). cond (q r) (r ∷ kept) kept) (filter-same p q rs (λ i s at. same (suc i) s at))

pub ready-same : (actor : Actor) (worker : WorkerId) (f : FileId) (past : Past) → is_wanted past f ≡ false → HasOneOfEach (records past) →
    ready (after_drop actor worker f past) ≡ ready past
ready-same actor worker f past unwanted one =
    filter-same (can_run (after_drop actor worker f past)) (can_run past) (records past)
    (λ i r at. can-run-same actor worker f past unwanted r (spares-all past f unwanted one i r at))

first-at-same : (actor : Actor) (worker : WorkerId) (f : FileId) (past : Past) → is_wanted past f ≡ false → HasOneOfEach (records past) →
    (o : Option ℕ) → first_at (after_drop actor worker f past) o ≡ first_at past o
first-at-same actor worker f past unwanted one None = refl
first-at-same actor worker f past unwanted one (Some p) =
    λ i. option_map id_of (find (λ r. prio-same actor worker f past unwanted one (id_of r) i == p) (ready-same actor worker f past unwanted one i))

-- a drop is no claim
turns-same : (order : OrderRule) (actor : Actor) (worker : WorkerId) (f : FileId) (past : Past) →
    has_turn_before order (after_drop actor worker f past) ≡ has_turn_before order past
turns-same Strict actor worker f past = refl
turns-same Shares actor worker f past = refl

pub next-same : (order : OrderRule) (actor : Actor) (worker : WorkerId) (f : FileId) (past : Past) → is_wanted past f ≡ false → HasOneOfEach (records past) →
    next order (after_drop actor worker f past) ≡ next order past
next-same order actor worker f past unwanted one =
    (λ i. first_at (after_drop actor worker f past)
    (first_by (turns-same order actor worker f past i)
    (map (λ r. prio-same actor worker f past unwanted one (id_of r) i) (ready-same actor worker f past unwanted one i))))
    ∙ first-at-same actor worker f past unwanted one (level order past)
