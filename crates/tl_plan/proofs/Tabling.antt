-- The tables that are made from what stands for a past are those of the past.
use Rattle.std.proofs.Common.{◌≡◌, ◌∙◌, arith, ℕ, suc, ◌+◌, Bool, true, false, ◌&&◌, ◌||◌, not, if◌then◌else◌, List, [], ◌∷◌, map, slice_get, Some, refl, sym, ap}
use Rattle.std.specs.List.{list_any}
use Rattle.tl_types.specs.declared.file_id.FileId.{FileId}
use Rattle.tl_model.specs.declared.record.Record.{Record}
use Rattle.tl_model.specs.Past.{Past}
use Rattle.tl_model.specs.Tables.{Table, downward}
use Rattle.tl_model.specs.History.{has_input, id_of, inputs_of, is_job, outputs_of, records}
use Rattle.tl_model.specs.Actors.{is_running}
use Rattle.tl_model.specs.Residency.{is_saved, is_resident, was_done}
use Rattle.tl_model.specs.Plan.{is_awaited, lacks, task_among, tasks}
use Rattle.tl_steps.proofs.Lists.{any_map, get_map}
use Rattle.tl_steps.proofs.Seats.{seats_of, read-same, running-same}
use Rattle.tl_plan.specs.declared.job.Job.{Job}
use Rattle.tl_plan.specs.declared.output.Output.{Output}
use Rattle.tl_steps.specs.declared.seat.Seat.{Seat}
use Rattle.tl_plan.specs.Data.{all_awaited, files_after, is_lacking, is_task_now, row_at, row_or_none, tables_from, with_task}
use Rattle.tl_plan.specs.Standing.{files_with, job_in, output_with, outputs_with}
use Rattle.tl_plan.proofs.Marks.{StartsAt, all-marked}

-- a record before the tables are made
abbrev pub fresh : Past → Record → Job
fresh past r = job_in past (r, false)

abbrev pub no_file : FileId → Bool
no_file f = false

lacking-same : (past : Past) (table : Table Record Bool) (f : FileId) → is_lacking (seats_of past) (output_with past (is_awaited past table) f) ≡ lacks past table f
lacking-same past table f = ap (λ b. (b || is_awaited past table f) && not (is_resident past f || is_saved past f)) (read-same past f)

task-same : (past : Past) (table : Table Record Bool) (r : Record) →
    is_task_now (seats_of past) (fresh past r) (outputs_with past (is_awaited past table) r) ≡ task_among past table r
task-same past table r =
    ap (λ b. is_job r && (not (was_done past (id_of r)) || b))
    (any_map (is_lacking (seats_of past)) (output_with past (is_awaited past table)) (outputs_of r)
    ∙ ap (λ (test : FileId → Bool). list_any test (outputs_of r)) (λ i f. lacking-same past table f i))

row-same : (past : Past) (awaits : FileId → Bool) (all : List Record) (n : ℕ) (r : Record) → slice_get all n ≡ Some r →
    row_at n (files_with past awaits all) ≡ outputs_with past awaits r
row-same past awaits all n r at = ap row_or_none (get_map (outputs_with past awaits) all n r at)

and-true : (b : Bool) → b ≡ (b && true)
and-true true = refl
and-true false = refl

and-false : (b : Bool) → false ≡ (b && false)
and-false true = refl
and-false false = refl

files-after-task : (past : Past) (table : Table Record Bool) (all : List Record) (r : Record) (c : Bool) → StartsAt 0 all → is_running past (id_of r) ≡ c →
    (if not c then all_awaited (inputs_of r) (files_with past (is_awaited past table) all) else files_with past (is_awaited past table) all)
    ≡ files_with past (is_awaited past ((r, true) ∷ table)) all
files-after-task past table all r true from e =
    ap (λ (h : FileId → Bool). files_with past h all)
    (λ i g. (and-false (has_input g r) ∙ ap (λ c. has_input g r && not c) (sym e)) i || is_awaited past table g)
files-after-task past table all r false from e =
    all-marked past (is_awaited past table) (inputs_of r) all from
    ∙ ap (λ (h : FileId → Bool). files_with past h all)
    (λ i g. (and-true (has_input g r) ∙ ap (λ c. has_input g r && not c) (sym e)) i || is_awaited past table g)

files-same : (past : Past) (table : Table Record Bool) (all : List Record) (r : Record) (b : Bool) → StartsAt 0 all →
    files_after (seats_of past) (fresh past r) b (files_with past (is_awaited past table) all) ≡ files_with past (is_awaited past ((r, b) ∷ table)) all
files-same past table all r false from = refl
files-same past table all r true from =
    ap (λ c. if not c then all_awaited (inputs_of r) (files_with past (is_awaited past table) all) else files_with past (is_awaited past table) all) (running-same past (id_of r))
    ∙ files-after-task past table all r (is_running past (id_of r)) from refl

abbrev Tabled : Type 0
Tabled = List Job × List (List Output)

-- one record more
abbrev one_more : List Seat → ℕ → Job → Tabled → Tabled
one_more seats n job later =
    let is_task = is_task_now seats job (row_at n later.1) in
    (with_task is_task job ∷ later.0, files_after seats job is_task later.1)

abbrev answered : List Seat → Job → Tabled → Bool → Tabled
answered seats job later is_task = (with_task is_task job ∷ later.0, files_after seats job is_task later.1)

abbrev tabled : Past → List Record → List Record → Tabled
tabled past all rs = (map (job_in past) (downward (task_among past) rs), files_with past (is_awaited past (downward (task_among past) rs)) all)

tables-from : (past : Past) (all : List Record) → StartsAt 0 all → (n : ℕ) (rs : List Record) → ((i m : ℕ) (r : Record) → m ≡ n + i → slice_get rs i ≡ Some r → slice_get all m ≡ Some r) →
    tables_from (seats_of past) n (map (fresh past) rs) (files_with past no_file all) ≡ tabled past all rs
tables-from past all from n [] h = refl
tables-from past all from n (r ∷ rs) h =
    let later : tables_from (seats_of past) (suc n) (map (fresh past) rs) (files_with past no_file all) ≡ tabled past all rs =
    tables-from past all from (suc n) rs (λ i m x place at. h (suc i) m x (omega arith) at) in
    let table = downward (task_among past) rs in
    let here : slice_get all n ≡ Some r = h 0 n r (omega arith) refl in
    let answer : is_task_now (seats_of past) (fresh past r) (row_at n (files_with past (is_awaited past table) all)) ≡ task_among past table r =
    ap (is_task_now (seats_of past) (fresh past r)) (row-same past (is_awaited past table) all n r here) ∙ task-same past table r in
    ap (one_more (seats_of past) n (fresh past r)) later
    ∙ ap (answered (seats_of past) (fresh past r) (tabled past all rs)) answer
    ∙ (λ i. (job_in past (r, task_among past table r) ∷ map (job_in past) table, files-same past table all r (task_among past table r) from i))

pub tables-same : (past : Past) → StartsAt 0 (records past) →
    tables_from (seats_of past) 0 (map (fresh past) (records past)) (files_with past no_file (records past))
    ≡ (map (job_in past) (tasks past), files_with past (is_awaited past (tasks past)) (records past))
tables-same past from =
    tables-from past (records past) from 0 (records past) (λ i m r place at. let same : m ≡ i = omega arith in ap (slice_get (records past)) same ∙ at)
