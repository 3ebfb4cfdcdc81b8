-- The tables are made one record after another, from the last to the first.
use Rattle.std.proofs.Common.{◌≡◌, ◌∙◌, arith, ℕ, zero, suc, ◌+◌, ◌<◌, List, [], ◌∷◌, length, slice_get, get_or, Option, Some, None, refl, ap}
use Rattle.tl_plan.specs.declared.job.Job.{Job}
use Rattle.tl_plan.specs.declared.output.Output.{Output}
use Rattle.tl_steps.specs.declared.seat.Seat.{Seat}
use Rattle.tl_plan.specs.Data.{step_at, step_on, table_step, tables_from}

abbrev Made : Type 0
Made = List Job × List (List Output)

abbrev with_first : Job → Made → Made
with_first job tables = (job ∷ tables.0, tables.1)

-- the first i records are as they were, and the tables of the later ones are made
abbrev pub made_from : List Seat → ℕ → ℕ → List Job → List (List Output) → Made
made_from seats zero n jobs files = tables_from seats n jobs files
made_from seats (suc i) n [] files = ([], files)
made_from seats (suc i) n (job ∷ jobs) files = with_first job (made_from seats i (suc n) jobs files)

pub none_made : (seats : List Seat) (n : ℕ) (jobs : List Job) (files : List (List Output)) → made_from seats (length jobs) n jobs files ≡ (jobs, files)
none_made seats n [] files = refl
none_made seats n (job ∷ jobs) files = ap (with_first job) (none_made seats (suc n) jobs files)

past_first : (seats : List Seat) (m i : ℕ) (job : Job) (o : Option Job) (tables : Made) →
    step_on seats m (suc i) o (with_first job tables) ≡ with_first job (step_on seats m i o tables)
past_first seats m i job None tables = refl
past_first seats m i job (Some other) tables = refl

step_made : (seats : List Seat) (i n m : ℕ) (jobs : List Job) (files : List (List Output)) → m ≡ n + i → i < length jobs →
    step_at seats m i (made_from seats (suc i) n jobs files) ≡ made_from seats i n jobs files
step_made seats zero n m [] files place within = absurd (omega arith)
step_made seats zero n m (job ∷ jobs) files place within =
    let same : m ≡ n = omega arith in
    ap (λ k. step_on seats k 0 (Some job) (with_first job (tables_from seats (suc n) jobs files))) same
step_made seats (suc i) n m [] files place within = absurd (omega arith)
step_made seats (suc i) n m (job ∷ jobs) files place within =
    let rest = made_from seats (suc i) (suc n) jobs files in
    past_first seats m i job (slice_get rest.0 i) rest
    ∙ ap (with_first job) (step_made seats i (suc n) m jobs files (omega arith) (omega arith))

-- the tables of one record more
pub step_next : (seats : List Seat) (i : ℕ) (jobs : List Job) (files : List (List Output)) (now : Made) → now ≡ made_from seats (i + 1) 0 jobs files → i < length jobs →
    table_step seats i now ≡ made_from seats i 0 jobs files
step_next seats i jobs files now is within =
    let next : i + 1 ≡ suc i = omega arith in
    ap (table_step seats i) (is ∙ ap (λ k. made_from seats k 0 jobs files) next)
    ∙ step_made seats i 0 i jobs files (omega arith) within

pub get_some : {A : Type 0} (xs : List A) (n : ℕ) (d x : A) → n < length xs → x ≡ get_or xs n d → slice_get xs n ≡ Some x
get_some [] n d x within is = absurd (omega arith)
get_some (y ∷ xs) zero d x within is = let same : y ≡ x = cc in ap Some same
get_some (y ∷ xs) (suc n) d x within is = get_some xs n d x (omega arith) is
