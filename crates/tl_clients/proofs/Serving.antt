-- A read that waits, round after round.
use Rattle.std.proofs.Common.{◌≡◌, ◌<◌, ◌≤◌, ◌+◌, ◌-◌, ◌^◌, ℕ, Bool, true, false, ◌||◌, not, List, [], ◌∷◌, ◌++◌, Option, Some, None, is_some, Result, Ok, Err, OnErr, if◌then◌else◌, refl, sym, ap, ◌∙◌, arith}
use Rattle.std.specs.List.{list_all, list_any}
use Rattle.std.proofs.lemmas.Bool.{and_from, and_parts}
use Rattle.tl_types.specs.Block.{FileOutcome}
use Rattle.tl_types.specs.Same.{actor_same, actor_same-Decides, file_same}
use Rattle.tl_types.specs.declared.actor.Actor.{Actor}
use Rattle.tl_types.specs.declared.file_id.FileId.{FileId}
use Rattle.tl_types.specs.declared.record_id.RecordId.{RecordId}
use Rattle.tl_model.specs.declared.answer.Damage.{Damage}
use Rattle.tl_model.specs.declared.event.Act.{Act}
use Rattle.tl_model.specs.declared.event.Act.TheVariants.{Lose}
use Rattle.tl_model.specs.declared.header.Header.{Header}
use Rattle.tl_model.specs.Actors.{actors, claim_after, claim_after_loss, claims_record, is_running, open_claim, open_read, open_save}
use Rattle.tl_model.specs.Past.{Past, act_with, without_tickets}
use Rattle.tl_model.specs.Plan.{next}
use Rattle.tl_model.specs.Residency.{is_available}
use Rattle.tl_model.specs.Rules.{all_permitted, is_lawful, is_quiet, lawful_judge}
use Rattle.tl_laws_progress.proofs.Counting.{past-few, tasks-few}
use Rattle.tl_laws_progress.proofs.OpenReads.{waiting-read-has-next}
use Rattle.tl_pieces.specs.Setting.{Setting, Events}
use Rattle.tl_pieces.specs.Own.{Adds, is_by}
use Rattle.tl_pieces.specs.Faults.{IsDamage, is_input_of_last, is_read_or_input}
use Rattle.tl_pieces.specs.Reading.{is_missing}
use Rattle.tl_pieces.specs.Runs.{Run, all_kept_up, but_last_kept_up, is_kept_up, run_of, runs_of}
use Rattle.tl_pieces.proofs.Adding.{added-both, added-none}
use Rattle.tl_pieces.proofs.Begun.{ran-adds, ran-on}
use Rattle.tl_work.specs.declared.error.WorkError.{WorkError}
use Rattle.tl_work.specs.declared.error.WorkError.TheVariants.{StoreFault, Damaged, NoMemory}
use Rattle.tl_work.specs.declared.run.Ran.{Ran as Outcome}
use Rattle.tl_work.specs.declared.run.Ran.TheVariants as ran
use Rattle.tl_work.specs.Runs.{GivesUp, LeavesFewer, NothingRuns, RunFails, RunsNext, end_of, is_input, task_count}
use Rattle.tl_pieces.proofs.Pieced.{is-served-adds}
use Rattle.tl_work.proofs.Open.{idle-has}
use Rattle.tl_work.proofs.RunningNext.{run-added}
use Rattle.tl_clients.specs.Waits.{IsWaiting, LookFails, LooksOnce, ServesAtLast, WaitFails, WaitsInVain, WaitsSoFar, WhyLookFails, is_file}
use Rattle.tl_clients.proofs.Looking.{free-claim, free-from, free-save}

-- ---- a round

pub not-yet-waited : {T : Type 0} (s : Setting T) (f : FileId) (seen : Events T) → WaitsSoFar s f seen seen
not-yet-waited s f seen = record { runs = []; ran = added-none s seen; kept_up = refl }

pub waited-on : {T : Type 0} (s : Setting T) (f : FileId) (start before after : Events T) → WaitsSoFar s f start before → Adds s [] before after → WaitsSoFar s f start after
waited-on s f start before after w a = record {
  runs = w.runs;
  ran = ran-on s s.worker (is_missing f) w.runs start before after w.ran a;
  kept_up = w.kept_up;
}

run-kept : (made : RecordId) (end : Outcome) → is_kept_up (record { made = made; end = end_of end }) ≡ true
run-kept made ran.Installed = refl
run-kept made ran.Lost = refl

-- a round: the file was missing, and what was next was run
pub waited-round : {T : Type 0} (s : Setting T) (f : FileId) (start mid after : Events T) (end : Option Outcome) → WaitsSoFar s f start mid → is_missing f (without_tickets mid) ≡ true →
    RunsNext s mid after end → WaitsSoFar s f start after
waited-round s f start mid after None w missing r = waited-on s f start mid after w r.0
waited-round s f start mid after (Some end) w missing r =
    let run : Run = record { made = r.0; end = end_of end } in
    record {
      runs = run ∷ w.runs;
      ran = (mid, w.ran, r.1 (is_missing f) missing);
      kept_up = and_from (is_kept_up run) (all_kept_up w.runs) (run-kept r.0 end) w.kept_up;
    }

-- ---- a failure

in-vain : {T : Type 0} (s : Setting T) (f : FileId) (start after : Events T) (w : WaitsSoFar s f start after) → but_last_kept_up w.runs ≡ true
in-vain s f start after w = vain w.runs w.kept_up where
  vain : (runs : List Run) → all_kept_up runs ≡ true → but_last_kept_up runs ≡ true
  vain [] h = refl
  vain (run ∷ runs) h = (and_parts (is_kept_up run) (all_kept_up runs) h).1

pub either-left : (a b : Bool) → a ≡ true → (a || b) ≡ true
either-left true b h = refl
either-left false b h = absurd (cc)

either-right : (a b : Bool) → b ≡ true → (a || b) ≡ true
either-right true b h = refl
either-right false b h = h

-- a damage of what one line loads is one of what another loads that loads it too
pub loaded-too : {T : Type 0} (s : Setting T) (p q : Past → FileId → Bool) (after : Events T) (damage : Damage) → ((past : Past) (g : FileId) → p past g ≡ true → q past g ≡ true) →
    IsDamage s p after damage → IsDamage s q after damage
loaded-too s p q after damage more d = record {
  file = d.file;
  at = d.at;
  later = d.later;
  within = d.within;
  loaded = more (without_tickets d.at) d.file d.loaded;
  kept = d.kept;
  differs = d.differs;
  untold = d.untold;
}

pub look-failed : {T : Type 0} (s : Setting T) (f : FileId) (start before after : Events T) (error : WorkError) → WaitsSoFar s f start before → LookFails s f before after error →
    WaitFails s f start after error
look-failed {T} s f start before after error w l =
    let so_far : WaitsSoFar s f start after = waited-on s f start before after w l.came in
    let vain : WaitsInVain s f start after = record { runs = so_far.runs; ran = so_far.ran; kept_up = in-vain s f start after so_far } in
    by-error error vain l.why where
      by-error : (e : WorkError) (v : WaitsInVain s f start after) → WhyLookFails s f after e → WaitFails s f start after e
      by-error StoreFault v why = v
      by-error (Damaged damage) v why = (v, loaded-too s (is_file f) (is_read_or_input f v.runs) after damage (λ past g h. either-left (file_same f g) (is_input_of_last v.runs past g) h) why)
      by-error NoMemory v why = (runs_of s.actor s.worker v.runs, ran-adds s s.worker (is_missing f) v.runs start after v.ran)

pub run-failed : {T : Type 0} (s : Setting T) (f : FileId) (start mid after : Events T) (error : WorkError) → WaitsSoFar s f start mid → is_missing f (without_tickets mid) ≡ true →
    RunFails s mid after error → WaitFails s f start after error
run-failed {T} s f start mid after error w missing r = by-error error r where
  vain : (g : GivesUp s mid after) → WaitsInVain s f start after
  vain g = record { runs = g.0 ∷ w.runs; ran = (mid, w.ran, g.2 (is_missing f) missing); kept_up = w.kept_up }

  by-error : (e : WorkError) → RunFails s mid after e → WaitFails s f start after e
  by-error StoreFault g = vain g
  by-error (Damaged damage) d =
      (vain d.0, loaded-too s (is_input d.0.0.made) (is_read_or_input f (d.0.0 ∷ w.runs)) after damage (λ past g h. either-right (file_same f g) (is_input_of_last (d.0.0 ∷ w.runs) past g) h) d.1)
  by-error NoMemory m =
      (m.0 ++ runs_of s.actor s.worker w.runs, added-both s (runs_of s.actor s.worker w.runs) m.0 start mid after (ran-adds s s.worker (is_missing f) w.runs start mid w.ran) m.1)

-- ---- what stays open

pub still-waiting : {T : Type 0} (s : Setting T) (f : FileId) (mid after : Events T) → IsWaiting s f mid → open_claim (without_tickets after) s.actor ≡ None →
    open_read (without_tickets after) s.actor ≡ open_read (without_tickets mid) s.actor → open_save (without_tickets after) s.actor ≡ open_save (without_tickets mid) s.actor →
    IsWaiting s f after
still-waiting s f mid after w claim read save = record {
  reading = (w.reading.0, read ∙ w.reading.1, w.reading.2);
  free = free-from (without_tickets after) s.actor claim (save ∙ free-save (without_tickets mid) s.actor w.free);
}

-- ---- what runs

loss-none : (act : Act (Unit {0})) → claim_after_loss act None ≡ None
loss-none (Lose worker) = refl
loss-none act = refl

others-none : {T : Type 0} (actor other : Actor) (more before : Events T) → actor_same other actor ≡ false → list_all (is_by actor) more ≡ true →
    open_claim (without_tickets before) other ≡ None → open_claim (without_tickets (more ++ before)) other ≡ None
others-none actor other [] before apart by none = none
others-none {T} actor other (e ∷ more) before apart by none =
    let parts = and_parts (is_by actor e) (list_all (is_by actor) more) by in
    let author : e.actor ≡ actor = sym ((actor_same-Decides actor e.actor).0 parts.0) in
    let elsewhere : actor_same other e.actor ≡ false = ap (actor_same other) author ∙ apart in
    ap (λ (b : Bool). claim_after_loss (act_with {U = Unit {0}} (λ _. tt) e.act)
    (if b then claim_after (act_with {U = Unit {0}} (λ _. tt) e.act) (open_claim (without_tickets (more ++ before)) other) else open_claim (without_tickets (more ++ before)) other)) elsewhere
    ∙ ap (claim_after_loss (act_with {U = Unit {0}} (λ _. tt) e.act)) (others-none actor other more before apart parts.1 none)
    ∙ loss-none (act_with {U = Unit {0}} (λ _. tt) e.act)

-- where all that came is the actor's, and its claim is closed, nothing runs
pub nothing-runs-after : {T : Type 0} (s : Setting T) (mine before after : Events T) → s.whole ≡ true → Adds s mine before after → NothingRuns before →
    open_claim (without_tickets after) s.actor ≡ None → NothingRuns after
nothing-runs-after {T} s mine before after whole a none closed other = by-actor (actor_same other s.actor) refl where
  by-actor : (b : Bool) → actor_same other s.actor ≡ b → open_claim (without_tickets after) other ≡ None
  by-actor true same = ap (open_claim (without_tickets after)) ((actor_same-Decides other s.actor).0 same) ∙ closed
  by-actor false apart =
      ap (λ (es : Events T). open_claim (without_tickets es) other) a.came
      ∙ others-none s.actor other a.more before apart (a.alone whole) (none other)

pub none-running : {T : Type 0} (events : Events T) → NothingRuns events → (made : RecordId) → is_running (without_tickets events) made ≡ false
none-running events none made = λ i. list_any (λ a. claims_record made (none a i)) actors

-- ---- progress

missing-not : (past : Past) (f : FileId) → is_missing f past ≡ true → is_available past f ≡ false
missing-not past f h = by (is_available past f) h where
  by : (b : Bool) → not b ≡ true → b ≡ false
  by false h = refl
  by true h = absurd (cc)

no-next : (o : Option RecordId) → o ≡ None → is_some o ≡ true → ⊥
no-next None e h = absurd (cc)
no-next (Some made) e h = absurd (cc)

-- where nothing runs, a read whose file is missing has a next
never-stuck : {T : Type 0} (s : Setting T) (f : FileId) (events : Events T) → is_lawful s.header events ≡ true → NothingRuns events → IsWaiting s f events →
    is_missing f (without_tickets events) ≡ true → next s.header.order (without_tickets events) ≡ None → ⊥
never-stuck s f events lawful none w missing stuck =
    let gone : is_available (without_tickets events) w.reading.0.file ≡ false = ap (is_available (without_tickets events)) w.reading.2 ∙ missing-not (without_tickets events) f missing in
    no-next (next s.header.order (without_tickets events)) stuck
    (waiting-read-has-next s.header events lawful (none-running events none) s.actor w.reading.0 w.reading.1 gone)

-- a round leaves fewer tasks
pub fewer-tasks : {T : Type 0} (s : Setting T) (f : FileId) (mid after : Events T) (end : Option Outcome) → is_lawful s.header mid ≡ true → NothingRuns mid → IsWaiting s f mid →
    is_missing f (without_tickets mid) ≡ true → RunsNext s mid after end → LeavesFewer mid after end → task_count after < task_count mid
fewer-tasks {T} s f mid after None lawful none w missing r l =
    absurd (never-stuck s f mid lawful none w missing (ap (λ (es : Events T). next s.header.order (without_tickets es)) (sym l) ∙ r.1))
fewer-tasks s f mid after (Some ran.Installed) lawful none w missing r l = l
fewer-tasks s f mid after (Some ran.Lost) lawful none w missing r l = absurd l

-- there are not so many tasks
pub few-rounds : {T : Type 0} (header : Header) (events : Events T) (rounds later : ℕ) → is_lawful header events ≡ true → rounds + later ≤ task_count events → rounds < 2 ^ 64 - 1
few-rounds header events rounds later lawful few =
    let ok = (and_parts (all_permitted lawful_judge header events) (is_quiet lawful_judge events) lawful).0 in
    omega (arith, tasks-few (without_tickets events), past-few lawful_judge header events ok)

-- ---- what a look leaves of what runs

pub look-rests : {T : Type 0} (s : Setting T) (f : FileId) (before after : Events T) (block : FileOutcome) → s.whole ≡ true → NothingRuns before → LooksOnce s f before after (Some block) →
    NothingRuns after
look-rests s f before after block whole none l =
    nothing-runs-after s _ before after whole (is-served-adds s block before after l.1) none (idle-has (without_tickets after) s.actor l.2).claim

pub wait-rests : {T : Type 0} (s : Setting T) (f : FileId) (before after : Events T) → s.whole ≡ true → NothingRuns before → Adds s [] before after → IsWaiting s f after → NothingRuns after
wait-rests s f before after whole none a w = nothing-runs-after s [] before after whole a none (free-claim (without_tickets after) s.actor w.free)

-- what a run that failed added
fail-adds : {T : Type 0} (s : Setting T) (mid after : Events T) (error : WorkError) → RunFails s mid after error → (mine : Events T) × Adds s mine mid after
fail-adds s mid after StoreFault g = (run_of s.actor s.worker g.0, run-added s g.0 mid after g.2)
fail-adds s mid after (Damaged damage) d = (run_of s.actor s.worker d.0.0, run-added s d.0.0 mid after d.0.2)
fail-adds s mid after NoMemory m = m

pub fail-rests : {T : Type 0} (s : Setting T) (mid after : Events T) (error : WorkError) → s.whole ≡ true → NothingRuns mid → RunFails s mid after error →
    open_claim (without_tickets after) s.actor ≡ None → NothingRuns after
fail-rests s mid after error whole none r closed = let a = fail-adds s mid after error r in nothing-runs-after s a.0 mid after whole a.1 none closed

next-adds : {T : Type 0} (s : Setting T) (mid after : Events T) (end : Option Outcome) → RunsNext s mid after end → (mine : Events T) × Adds s mine mid after
next-adds s mid after None r = ([], r.0)
next-adds s mid after (Some end) r =
    let run : Run = record { made = r.0; end = end_of end } in (run_of s.actor s.worker run, run-added s run mid after r.1)

pub next-rests : {T : Type 0} (s : Setting T) (mid after : Events T) (end : Option Outcome) → s.whole ≡ true → NothingRuns mid → RunsNext s mid after end →
    open_claim (without_tickets after) s.actor ≡ None → NothingRuns after
next-rests s mid after end whole none r closed = let a = next-adds s mid after end r in nothing-runs-after s a.0 mid after whole a.1 none closed

-- ---- rounds that are over

pub served-at-last : {T : Type 0} (s : Setting T) (f : FileId) (start before after : Events T) (block : FileOutcome) → WaitsSoFar s f start before → LooksOnce s f before after (Some block) →
    ServesAtLast s f start after block
served-at-last s f start before after block w l = record {
  runs = w.runs;
  ran_at = before;
  ran = w.ran;
  kept_up = w.kept_up;
  of_file = l.0;
  served = l.1;
  idle = l.2;
}

pub is-none : {A : Type 0} (o : Option A) → ((x : A) → o ≡ Some x → ⊥) → o ≡ None
is-none None never = refl
is-none (Some x) never = absurd (never x refl)

pub on-exit : {A E B : Type 0} (r : Result A E) → B → OnErr r B
on-exit (Ok a) b = tt
on-exit (Err e) b = b
