-- Runs one after another.
use Rattle.std.proofs.Common.{◌≡◌, ◌≤◌, ◌<◌, ◌+◌, ℕ, Bool, true, List, [], ◌∷◌, ◌++◌, Option, Some, None, Result, Ok, Err, IfOk, IfErr, is_none, refl, sym, ap, subst, arith}
use Rattle.tl_types.specs.declared.file_id.FileId.{FileId}
use Rattle.tl_types.specs.declared.worker_id.WorkerId.{WorkerId}
use Rattle.tl_model.specs.declared.answer.ClientError.{ClientError}
use Rattle.tl_model.specs.declared.answer.Damage.{Damage}
use Rattle.tl_model.specs.Actors.{is_idle}
use Rattle.tl_model.specs.Past.{Past, without_tickets}
use Rattle.tl_desk.specs.Finds.{Post}
use Rattle.tl_pieces.specs.Setting.{Setting, Events}
use Rattle.tl_pieces.specs.Counts.{IsWorkGivenUp, IsWorked, anywhere, nothing_is_next}
use Rattle.tl_pieces.specs.Faults.{FaultCount, IsDamage, StoreFailed, is_input_of_last}
use Rattle.tl_pieces.specs.Lines.{AddsSome, IsWorkLine}
use Rattle.tl_pieces.specs.Moments.{is_quiet_end}
use Rattle.tl_pieces.specs.Own.{Adds}
use Rattle.tl_pieces.specs.Runs.{Installed, IsRun, Lost, Ran as AreRun, Run, all_kept_up, installed, runs_of}
use Rattle.tl_pieces.proofs.Adding.{added-both, added-none}
use Rattle.tl_pieces.proofs.Begun.{ran-adds, ran-on}
use Rattle.tl_pieces.proofs.Pieced.{work-given-up-some}
use Rattle.tl_work.specs.declared.error.WorkError.{WorkError}
use Rattle.tl_work.specs.declared.error.WorkError.TheVariants.{StoreFault, Damaged, NoMemory}
use Rattle.tl_work.specs.declared.run.Ran.{Ran}
use Rattle.tl_work.specs.declared.run.Ran.TheVariants as ran
use Rattle.tl_work.specs.Runs.{GivesUp, LeavesFewer, RunFails, RunsNext, is_input}
use Rattle.tl_work.specs.Setting.{setting}
use Rattle.tl_clients.specs.Counting.{WorkFails, unnumbered}
use Rattle.tl_clients.proofs.Staying.{count-all, count-short}

-- ---- what is so of one worker's setting is so of another's

pub adds-for : {T : Type 0} (whole tells : Bool) (content : T → List ℕ) (post : Post) (worker own : WorkerId) (mine before after : Events T) →
    Adds (setting whole tells content post worker) mine before after → Adds (setting whole tells content post own) mine before after
adds-for whole tells content post worker own mine before after a = record { more = a.more; came = a.came; own = a.own; alone = a.alone }

pub run-for : {T : Type 0} (whole tells : Bool) (content : T → List ℕ) (post : Post) (worker own : WorkerId) (runner : WorkerId) (is_so : Past → Bool) (run : Run) (before after : Events T) →
    IsRun (setting whole tells content post worker) runner is_so run before after → IsRun (setting whole tells content post own) runner is_so run before after
run-for whole tells content post worker own runner is_so run before after r = record {
  looked_at = r.looked_at;
  claimed_at = r.claimed_at;
  looks = adds-for whole tells content post worker own _ before r.looked_at r.looks;
  quiet = r.quiet;
  so = r.so;
  claims = adds-for whole tells content post worker own _ r.looked_at r.claimed_at r.claims;
  ends = adds-for whole tells content post worker own _ r.claimed_at after r.ends;
  closed = r.closed;
}

pub damage-for : {T : Type 0} (whole tells : Bool) (content : T → List ℕ) (post : Post) (worker own : WorkerId) (is_loaded is_loaded' : Past → FileId → Bool) (after : Events T) (damage : Damage) →
    ((past : Past) (f : FileId) → is_loaded past f ≡ true → is_loaded' past f ≡ true) →
    IsDamage (setting whole tells content post worker) is_loaded after damage → IsDamage (setting whole tells content post own) is_loaded' after damage
damage-for whole tells content post worker own is_loaded is_loaded' after damage h d = record {
  file = d.file;
  at = d.at;
  later = d.later;
  within = d.within;
  loaded = h (without_tickets d.at) d.file d.loaded;
  kept = d.kept;
  differs = d.differs;
  untold = d.untold;
}

-- ---- runs so far

-- runs on the worker, of which so many brought their outputs, and none was given back
pub record RanSoFar {T : Type 0} (s : Setting T) (worker : WorkerId) (k : ℕ) (before after : Events T) : Type 0 where
  pub runs : List Run
  pub ran : AreRun s worker anywhere runs before after
  pub kept_up : all_kept_up runs ≡ true
  pub counted : k ≡ installed runs

pub ran-none : {T : Type 0} (s : Setting T) (worker : WorkerId) (events : Events T) → RanSoFar s worker 0 events events
ran-none s worker events = record { runs = []; ran = added-none s events; kept_up = refl; counted = refl }

pub ran-one : {T : Type 0} (whole tells : Bool) (content : T → List ℕ) (post : Post) (worker own : WorkerId) (k : ℕ) (before mid after : Events T) (answer : Option Ran) →
    answer ≡ Some ran.Installed → RanSoFar (setting whole tells content post own) worker k before mid → RunsNext (setting whole tells content post worker) mid after answer →
    RanSoFar (setting whole tells content post own) worker (k + 1) before after
ran-one {T} whole tells content post worker own k before mid after answer is r n =
    let next : RunsNext (setting whole tells content post worker) mid after (Some ran.Installed) =
    subst (λ (o : Option Ran). RunsNext (setting whole tells content post worker) mid after o) is n in
    let run : Run = record { made = next.0; end = Installed } in
    let same : k ≡ installed r.runs = r.counted in
    record {
      runs = run ∷ r.runs;
      ran = (mid, r.ran, run-for whole tells content post worker own worker anywhere run mid after (next.1 anywhere refl));
      kept_up = r.kept_up;
      counted = omega arith;
    }

pub ran-lost : {T : Type 0} (whole tells : Bool) (content : T → List ℕ) (post : Post) (worker own : WorkerId) (k : ℕ) (before mid after : Events T) (answer : Option Ran) →
    answer ≡ Some ran.Lost → RanSoFar (setting whole tells content post own) worker k before mid → RunsNext (setting whole tells content post worker) mid after answer →
    RanSoFar (setting whole tells content post own) worker k before after
ran-lost {T} whole tells content post worker own k before mid after answer is r n =
    let next : RunsNext (setting whole tells content post worker) mid after (Some ran.Lost) =
    subst (λ (o : Option Ran). RunsNext (setting whole tells content post worker) mid after o) is n in
    let run : Run = record { made = next.0; end = Lost } in
    record {
      runs = run ∷ r.runs;
      ran = (mid, r.ran, run-for whole tells content post worker own worker anywhere run mid after (next.1 anywhere refl));
      kept_up = r.kept_up;
      counted = r.counted;
    }

pub worked-all : {T : Type 0} (s : Setting T) (worker : WorkerId) (n k : ℕ) (before after : Events T) → k ≡ n → RanSoFar s worker k before after → IsWorked s worker n k before after
worked-all s worker n k before after all r = record {
  runs = r.runs;
  ran = r.ran;
  kept_up = r.kept_up;
  counted = r.counted;
  enough = count-all s (nothing_is_next s.header) n k after all;
}

pub worked-short : {T : Type 0} (whole tells : Bool) (content : T → List ℕ) (post : Post) (worker own : WorkerId) (n k : ℕ) (before mid after : Events T) (answer : Option Ran) →
    answer ≡ None → k ≤ n → is_quiet_end (setting whole tells content post own) after ≡ true → RanSoFar (setting whole tells content post own) worker k before mid →
    RunsNext (setting whole tells content post worker) mid after answer → IsWorked (setting whole tells content post own) worker n k before after
worked-short {T} whole tells content post worker own n k before mid after answer is few quiet r found =
    let s : Setting T = setting whole tells content post own in
    let none : RunsNext (setting whole tells content post worker) mid after None =
    subst (λ (o : Option Ran). RunsNext (setting whole tells content post worker) mid after o) is found in
    record {
      runs = r.runs;
      ran = ran-on s worker anywhere r.runs before mid after r.ran (adds-for whole tells content post worker own [] mid after none.0);
      kept_up = r.kept_up;
      counted = r.counted;
      enough = count-short s (nothing_is_next s.header) n k after few quiet (ap is_none none.1);
    }

-- ---- runs that were not gone on with

work-given-up : {T : Type 0} (whole tells : Bool) (content : T → List ℕ) (post : Post) (worker own : WorkerId) (n k : ℕ) (before mid after : Events T) → k < n →
    RanSoFar (setting whole tells content post own) worker k before mid → GivesUp (setting whole tells content post worker) mid after →
    IsWorkGivenUp (setting whole tells content post own) worker n before after
work-given-up whole tells content post worker own n k before mid after few r g = record {
  last = g.0;
  earlier = r.runs;
  ran = (mid, r.ran, run-for whole tells content post worker own worker anywhere g.0 mid after (g.2 anywhere refl));
  kept_up = r.kept_up;
  failed = g.1;
  fewer = subst (λ m. m < n) r.counted few;
}

pub work-fails : {T : Type 0} (whole tells : Bool) (content : T → List ℕ) (post : Post) (worker own : WorkerId) (n k : ℕ) (before mid after : Events T) (error : WorkError) → k < n →
    RanSoFar (setting whole tells content post own) worker k before mid → RunFails (setting whole tells content post worker) mid after error →
    WorkFails (setting whole tells content post own) worker n before after error
unfolding work-given-up
work-fails whole tells content post worker own n k before mid after StoreFault few r f = work-given-up whole tells content post worker own n k before mid after few r f
work-fails whole tells content post worker own n k before mid after (Damaged damage) few r f = (
  work-given-up whole tells content post worker own n k before mid after few r f.0,
  damage-for whole tells content post worker own (is_input f.0.0.made) (is_input_of_last (f.0.0 ∷ [])) after damage (λ past file h. h) f.1,
)
work-fails {T} whole tells content post worker own n k before mid after NoMemory few r f =
    let s : Setting T = setting whole tells content post own in (
      f.0 ++ runs_of {T = T} s.actor worker r.runs,
      added-both s (runs_of {T = T} s.actor worker r.runs) f.0 before mid after (ran-adds s worker anywhere r.runs before mid r.ran)
          (adds-for whole tells content post worker own f.0 mid after f.1),
    )

pub work-fails-some : {T : Type 0} (s : Setting T) (worker : WorkerId) (n : ℕ) (before after : Events T) (error : WorkError) → WorkFails s worker n before after error → AddsSome s before after
work-fails-some s worker n before after StoreFault f = work-given-up-some s worker n before after f
work-fails-some s worker n before after (Damaged damage) f = work-given-up-some s worker n before after f.0
work-fails-some s worker n before after NoMemory f = f

work-failed : {T : Type 0} (s : Setting T) (count : FaultCount) (worker : WorkerId) (n : ℕ) (before after : Events T) (error : WorkError) → WorkFails s worker n before after error →
    (error ≡ StoreFault → StoreFailed count) → is_idle (without_tickets after) s.actor ≡ true → IsWorkLine s count worker n before after (Err (unnumbered error))
work-failed s count worker n before after StoreFault f rises idle = record { ended = (f, rises refl); rest = idle }
work-failed s count worker n before after (Damaged damage) f rises idle = record { ended = f; rest = idle }
work-failed s count worker n before after NoMemory f rises idle = record { ended = f; rest = idle }

pub work-line-failed : {T : Type 0} (s : Setting T) (count : FaultCount) (worker : WorkerId) (n : ℕ) (before after : Events T) (error : WorkError) (told : ClientError) →
    told ≡ unnumbered error → WorkFails s worker n before after error → (error ≡ StoreFault → StoreFailed count) → is_idle (without_tickets after) s.actor ≡ true →
    IsWorkLine s count worker n before after (Err told)
work-line-failed s count worker n before after error told is f rises idle =
    subst (λ (e : ClientError). IsWorkLine s count worker n before after (Err e)) (sym is) (work-failed s count worker n before after error f rises idle)

pub work-either : {T : Type 0} (s : Setting T) (worker : WorkerId) (n : ℕ) (before after : Events T) (result : Result ℕ WorkError) → IfOk result (λ k. IsWorked s worker n k before after) →
    IfErr result (WorkFails s worker n before after) → AddsSome s before after
work-either {T} s worker n before after (Ok k) ok failed =
    let w : IsWorked s worker n k before after = ok in (runs_of {T = T} s.actor worker w.runs, ran-adds s worker anywhere w.runs before after w.ran)
work-either s worker n before after (Err error) ok failed = work-fails-some s worker n before after error failed

-- where nobody else uses the cluster, no run is lost
pub never-lost : {T : Type 0} (before after : Events T) (answer : Option Ran) (k m : ℕ) → answer ≡ Some ran.Lost → LeavesFewer before after answer → k ≡ m
never-lost {T} before after answer k m is l = absurd (subst (λ (o : Option Ran). LeavesFewer before after o) is l)
