-- What a job's files hold: what its program means of what its inputs hold, whatever comes later.
use Rattle.std.proofs.Common.{◌≡◌, ℕ, ◌+◌, ◌<◌, ◌≤◌, List, [], ◌∷◌, ◌++◌, length, map, slice_get, Some, unwrap_or, option_and_then, refl, sym, ap, ◌∙◌, inl, inr, arith, length-append, append-nil}
use Rattle.std.specs.List.{AllByRecursion}
use Rattle.tl_types.specs.declared.file_id.FileId.{FileId}
use Rattle.tl_types.specs.declared.record_id.RecordId.{RecordId}
use Rattle.tl_types.specs.declared.outcome.Outcome.{Outcome}
use Rattle.tl_lang.specs.declared.job.JobSpecCore.{JobSpecCore}
use Rattle.tl_lang.specs.Job.{job_mean}
use Rattle.tl_model.specs.declared.command.Command.{Command}
use Rattle.tl_model.specs.declared.command.Command.TheVariants.{Put, Job, Read, Delete, Mkdir, Rename, Pin, Unpin, List as list, Stat, Free as free}
use Rattle.tl_model.specs.declared.reply.Reply.{Reply}
use Rattle.tl_model.specs.declared.reply.Reply.TheVariants.{Made, Fine, Opened, Listed, Stated, Exists, NoSuch, NotFile, NotDir, NotEmpty, TooDeep, IntoItself, TooMany}
use Rattle.tl_model.specs.declared.record.Record.{Record}
use Rattle.tl_model.specs.declared.record.Record.TheVariants as kind
use Rattle.tl_types.specs.declared.actor.Actor.{Actor}
use Rattle.tl_model.specs.declared.event.Act.{Act}
use Rattle.tl_model.specs.declared.event.Act.TheVariants.{Call, Served, Shut, Claim, Done, Back, Lose, Free, Drop, Load, Save, Saved, Unsave, Collect}
use Rattle.tl_model.specs.Namespace.{Names}
use Rattle.tl_model.specs.History.{HistoryOf, with_call, names_of, records_of, record_made, files_at}
use Rattle.tl_model.specs.Values.{Outcomes, no_outcome, outcome_in, outcomes_made, outcomes_of}
use Rattle.tl_laws.proofs.Numbering.{below_or_not, get-left, get-last, get-within}

-- ---- as many outcomes as records

made-count : (reply : Reply) (command : Command (List ℕ)) (names : Names) (table : Outcomes) →
    length (outcomes_made reply command names table) ≡ length (record_made reply command names)
made-count (Made made) (Put path len digest bytes) names table = refl
made-count (Made made) (Job core prio inputs outputs) names table = refl
made-count (Made made) (Read path prio form) names table = refl
made-count (Made made) (Delete path) names table = refl
made-count (Made made) (Mkdir path) names table = refl
made-count (Made made) (Rename from to) names table = refl
made-count (Made made) (Pin path) names table = refl
made-count (Made made) (Unpin path) names table = refl
made-count (Made made) (list path) names table = refl
made-count (Made made) (Stat path) names table = refl
made-count (Made made) (free path) names table = refl
made-count Fine command names table = refl
made-count (Opened g) command names table = refl
made-count (Listed entries) command names table = refl
made-count (Stated s) command names table = refl
made-count Exists command names table = refl
made-count NoSuch command names table = refl
made-count NotFile command names table = refl
made-count NotDir command names table = refl
made-count NotEmpty command names table = refl
made-count TooDeep command names table = refl
made-count IntoItself command names table = refl
made-count TooMany command names table = refl

pub outcomes-count : (calls : HistoryOf (List ℕ)) → length (outcomes_of calls) ≡ length (records_of calls)
outcomes-count [] = refl
outcomes-count (call ∷ calls) =
    length-append (outcomes_of calls) (outcomes_made call.reply call.command (names_of calls) (outcomes_of calls))
    ∙ ap (λ n. n + length (outcomes_made call.reply call.command (names_of calls) (outcomes_of calls))) (outcomes-count calls)
    ∙ ap (λ n. length (records_of calls) + n) (made-count call.reply call.command (names_of calls) (outcomes_of calls))
    ∙ sym (length-append (records_of calls) (record_made call.reply call.command (names_of calls)))

-- ---- what an older record's files hold

pub outcome-left : (table more : Outcomes) (f : FileId) → f.rec.0 < length table → outcome_in (table ++ more) f ≡ outcome_in table f
outcome-left table more f h = ap (λ o. unwrap_or (option_and_then (λ outcomes. slice_get outcomes f.out) o) no_outcome) (get-left table more f.rec.0 h)

pub inputs-left : (table more : Outcomes) (fs : List FileId) (n : ℕ) → n ≤ length table → AllByRecursion (λ f. f.rec.0 < n) fs →
    map (outcome_in (table ++ more)) fs ≡ map (outcome_in table) fs
inputs-left table more [] n le h = refl
inputs-left table more (f ∷ fs) n le h =
    let below : f.rec.0 < n = h.0 in
    ap (λ o. o ∷ map (outcome_in (table ++ more)) fs) (outcome-left table more f (omega arith))
    ∙ ap (λ os. outcome_in table f ∷ os) (inputs-left table more fs n le h.1)

-- ---- what a job's program means of its inputs

-- what the job's outputs hold, where its inputs hold what the table says
abbrev pub job_outcomes : Outcomes → JobSpecCore → List FileId → List Outcome
job_outcomes table core inputs = job_mean core (map (outcome_in table) inputs)

none-at : {A : Type 0} (xs : List A) (i : ℕ) (x : A) → length xs ≤ i → slice_get (xs ++ []) i ≡ Some x → ⊥
none-at xs i x high at =
    let within : i < length xs = get-within xs i x (ap (λ (ys : List _). slice_get ys i) (sym (append-nil xs)) ∙ at) in
    omega arith

last-of : {A : Type 0} (xs : List A) (y : A) (i : ℕ) (x : A) → length xs ≤ i → slice_get (xs ++ y ∷ []) i ≡ Some x → (i ≡ length xs) × (y ≡ x)
last-of xs y i x high at =
    let within : i < length (xs ++ y ∷ []) = get-within (xs ++ y ∷ []) i x at in
    let place : i ≡ length xs = omega (arith, length-append xs (y ∷ [])) in
    let same : Some y ≡ Some x = sym (get-last xs y i place) ∙ at in
    let it : y ≡ x = cc in
    (place, it)

newest-job : (reply : Reply) (command : Command (List ℕ)) (names : Names) (rs : List Record) (table : Outcomes) (i : ℕ)
    (id : RecordId) (core : JobSpecCore) (prio : ℕ) (inputs : List FileId) (outputs : ℕ) → length table ≡ length rs → length rs ≤ i →
    slice_get (rs ++ record_made reply command names) i ≡ Some (kind.Job id core prio inputs outputs) →
    slice_get (table ++ outcomes_made reply command names table) i ≡ Some (job_outcomes table core inputs)
newest-job (Made made) (Put path len digest bytes) names rs table i id core prio inputs outputs count high at =
    let last = last-of rs (kind.Put made) i (kind.Job id core prio inputs outputs) high at in
    let no : kind.Put made ≡ kind.Job id core prio inputs outputs = last.1 in
    absurd (cc)
newest-job (Made made) (Job c p ins outs) names rs table i id core prio inputs outputs count high at =
    let new : Record = kind.Job made c p (files_at names ins) (length outs) in
    let last = last-of rs new i (kind.Job id core prio inputs outputs) high at in
    let same : kind.Job made c p (files_at names ins) (length outs) ≡ kind.Job id core prio inputs outputs = last.1 in
    let place : i ≡ length table = last.0 ∙ sym count in
    let cores : c ≡ core = cc in
    let files : files_at names ins ≡ inputs = cc in
    get-last table (job_outcomes table c (files_at names ins)) i place
    ∙ ap (λ (x : JobSpecCore). Some (job_outcomes table x (files_at names ins))) cores ∙ ap (λ (fs : List FileId). Some (job_outcomes table core fs)) files
newest-job (Made made) (Read path p form) names rs table i id core prio inputs outputs count high at = absurd (none-at rs i _ high at)
newest-job (Made made) (Delete path) names rs table i id core prio inputs outputs count high at = absurd (none-at rs i _ high at)
newest-job (Made made) (Mkdir path) names rs table i id core prio inputs outputs count high at = absurd (none-at rs i _ high at)
newest-job (Made made) (Rename from to) names rs table i id core prio inputs outputs count high at = absurd (none-at rs i _ high at)
newest-job (Made made) (Pin path) names rs table i id core prio inputs outputs count high at = absurd (none-at rs i _ high at)
newest-job (Made made) (Unpin path) names rs table i id core prio inputs outputs count high at = absurd (none-at rs i _ high at)
newest-job (Made made) (list path) names rs table i id core prio inputs outputs count high at = absurd (none-at rs i _ high at)
newest-job (Made made) (Stat path) names rs table i id core prio inputs outputs count high at = absurd (none-at rs i _ high at)
newest-job (Made made) (free path) names rs table i id core prio inputs outputs count high at = absurd (none-at rs i _ high at)
newest-job Fine command names rs table i id core prio inputs outputs count high at = absurd (none-at rs i _ high at)
newest-job (Opened g) command names rs table i id core prio inputs outputs count high at = absurd (none-at rs i _ high at)
newest-job (Listed entries) command names rs table i id core prio inputs outputs count high at = absurd (none-at rs i _ high at)
newest-job (Stated s) command names rs table i id core prio inputs outputs count high at = absurd (none-at rs i _ high at)
newest-job Exists command names rs table i id core prio inputs outputs count high at = absurd (none-at rs i _ high at)
newest-job NoSuch command names rs table i id core prio inputs outputs count high at = absurd (none-at rs i _ high at)
newest-job NotFile command names rs table i id core prio inputs outputs count high at = absurd (none-at rs i _ high at)
newest-job NotDir command names rs table i id core prio inputs outputs count high at = absurd (none-at rs i _ high at)
newest-job NotEmpty command names rs table i id core prio inputs outputs count high at = absurd (none-at rs i _ high at)
newest-job TooDeep command names rs table i id core prio inputs outputs count high at = absurd (none-at rs i _ high at)
newest-job IntoItself command names rs table i id core prio inputs outputs count high at = absurd (none-at rs i _ high at)
newest-job TooMany command names rs table i id core prio inputs outputs count high at = absurd (none-at rs i _ high at)

one-made : (reply : Reply) (command : Command (List ℕ)) (names : Names) (table : Outcomes) → length (outcomes_made reply command names table) ≤ 1
one-made (Made made) (Put path len digest bytes) names table = omega arith
one-made (Made made) (Job core prio inputs outputs) names table = omega arith
one-made (Made made) (Read path prio form) names table = omega arith
one-made (Made made) (Delete path) names table = omega arith
one-made (Made made) (Mkdir path) names table = omega arith
one-made (Made made) (Rename from to) names table = omega arith
one-made (Made made) (Pin path) names table = omega arith
one-made (Made made) (Unpin path) names table = omega arith
one-made (Made made) (list path) names table = omega arith
one-made (Made made) (Stat path) names table = omega arith
one-made (Made made) (free path) names table = omega arith
one-made Fine command names table = omega arith
one-made (Opened g) command names table = omega arith
one-made (Listed entries) command names table = omega arith
one-made (Stated s) command names table = omega arith
one-made Exists command names table = omega arith
one-made NoSuch command names table = omega arith
one-made NotFile command names table = omega arith
one-made NotDir command names table = omega arith
one-made NotEmpty command names table = omega arith
one-made TooDeep command names table = omega arith
one-made IntoItself command names table = omega arith
one-made TooMany command names table = omega arith

at-most-last : (reply : Reply) (command : Command (List ℕ)) (names : Names) (table : Outcomes) (i : ℕ) →
    i < length (table ++ outcomes_made reply command names table) → i ≤ length table
at-most-last reply command names table i within =
    let one : length (outcomes_made reply command names table) ≤ 1 = one-made reply command names table in
    omega (arith, length-append table (outcomes_made reply command names table))

-- a job's outputs hold what its program means of what its inputs hold now, where the inputs are of older records
pub job-at : (calls : HistoryOf (List ℕ)) (i : ℕ) (id : RecordId) (core : JobSpecCore) (prio : ℕ) (inputs : List FileId) (outputs : ℕ) →
    slice_get (records_of calls) i ≡ Some (kind.Job id core prio inputs outputs) → AllByRecursion (λ f. f.rec.0 < i) inputs →
    slice_get (outcomes_of calls) i ≡ Some (job_outcomes (outcomes_of calls) core inputs)
job-at [] i id core prio inputs outputs at older = absurd (cc)
job-at (call ∷ calls) i id core prio inputs outputs at older =
    let rs = records_of calls in
    let table = outcomes_of calls in
    let more = outcomes_made call.reply call.command (names_of calls) table in
    let count : length table ≡ length rs = outcomes-count calls in
    elim (below_or_not i (length rs)) [
      | inl less ↦
          let before : slice_get rs i ≡ Some (kind.Job id core prio inputs outputs) =
          sym (get-left rs (record_made call.reply call.command (names_of calls)) i less) ∙ at in
          let within : i < length table = omega arith in
          let le : i ≤ length table = omega arith in
          get-left table more i within ∙ job-at calls i id core prio inputs outputs before older
          ∙ ap (λ (os : List Outcome). Some (job_mean core os)) (sym (inputs-left table more inputs i le older))
      | inr high ↦
          let made : slice_get (table ++ more) i ≡ Some (job_outcomes table core inputs) =
          newest-job call.reply call.command (names_of calls) rs table i id core prio inputs outputs count high at in
          let within : i < length (table ++ more) = get-within (table ++ more) i (job_outcomes table core inputs) made in
          let last : i ≤ length table = at-most-last call.reply call.command (names_of calls) table i within in
          made ∙ ap (λ (os : List Outcome). Some (job_mean core os)) (sym (inputs-left table more inputs i last older))
    ]

-- what an accepted record's files hold stays, whatever is done next
pub outcome-stays : (actor : Actor) (act : Act (List ℕ)) (calls : HistoryOf (List ℕ)) (f : FileId) → f.rec.0 < length (records_of calls) →
    outcome_in (outcomes_of (with_call actor act calls)) f ≡ outcome_in (outcomes_of calls) f
outcome-stays actor (Call command reply) calls f h =
    let within : f.rec.0 < length (outcomes_of calls) = omega (arith, outcomes-count calls) in
    outcome-left (outcomes_of calls) (outcomes_made reply command (names_of calls) (outcomes_of calls)) f within
outcome-stays actor (Served g d) calls f h = refl
outcome-stays actor (Shut g) calls f h = refl
outcome-stays actor (Claim worker made) calls f h = refl
outcome-stays actor (Done worker made) calls f h = refl
outcome-stays actor (Back made) calls f h = refl
outcome-stays actor (Lose worker) calls f h = refl
outcome-stays actor (Free g) calls f h = refl
outcome-stays actor (Drop worker g) calls f h = refl
outcome-stays actor (Load worker g) calls f h = refl
outcome-stays actor (Save g) calls f h = refl
outcome-stays actor (Saved g size d) calls f h = refl
outcome-stays actor (Unsave g) calls f h = refl
outcome-stays actor (Collect made) calls f h = refl
