-- A round of its steps, and rounds one after another.
use Rattle.std.proofs.Common.{◌≡◌, ◌+◌, ℕ, [], ◌∷◌, ◌++◌, length, Option, Some, None, inr, sym, subst, arith}
use Rattle.tl_pieces.specs.Setting.{Setting, Events}
use Rattle.tl_pieces.specs.Own.{Adds}
use Rattle.tl_pieces.specs.Counts.{SaveOf, anywhere, save_of}
use Rattle.tl_pieces.specs.Lines.{AddsSome}
use Rattle.tl_pieces.specs.Runs.{Run, run_of}
use Rattle.tl_pieces.proofs.Adding.{added-both, added-none}
use Rattle.tl_pieces.proofs.Begun.{run-adds}
use Rattle.tl_pieces.proofs.Pieced.{save-adds}
use Rattle.tl_work.specs.declared.error.WorkError.{WorkError}
use Rattle.tl_work.specs.declared.error.WorkError.TheVariants.{StoreFault, Damaged, NoMemory}
use Rattle.tl_work.specs.Saves.{SaveFails}
use Rattle.tl_crew.specs.declared.crew.CrewEnd.{CrewEnd}
use Rattle.tl_crew.specs.Rounds.{Cuts, FailsAfter, IsRound, MakesRounds, NoCount, Round, RunsOne, SavesOne, StopsAfter, ended_by}
use Rattle.tl_crew.proofs.Steps.{passes-adds}

-- ---- what a step adds

pub ran-some : {T : Type 0} (s : Setting T) (run : Option Run) (before after : Events T) → RunsOne s run before after → AddsSome s before after
ran-some s None before after p = ([], passes-adds s _ before after p)
ran-some {T} s (Some run) before after r = (run_of {T = T} s.actor s.worker run, run-adds s s.worker anywhere run before after r.1)

pub saved-some : {T : Type 0} (s : Setting T) (save : Option SaveOf) (before after : Events T) → SavesOne s save before after → AddsSome s before after
saved-some s None before after p = ([], passes-adds s _ before after p)
saved-some {T} s (Some save) before after r = (save_of {T = T} s.actor save, save-adds s save before after r.1)

pub some-both : {T : Type 0} (s : Setting T) (before mid after : Events T) → AddsSome s before mid → AddsSome s mid after → AddsSome s before after
some-both s before mid after a b = (b.0 ++ a.0, added-both s a.0 b.0 before mid after a.1 b.1)

-- ---- rounds that were cut short

pub save-cuts : {T : Type 0} (s : Setting T) (run : Option Run) (before mid after : Events T) (error : WorkError) → RunsOne s run before mid → SaveFails s mid after error →
    Cuts s before after error
save-cuts s run before mid after StoreFault r f = inr (record { run = run; ran_at = mid; ran = r; file = f.0; saved = f.1 })
save-cuts s run before mid after (Damaged damage) r f = absurd f
save-cuts s run before mid after NoMemory r f = some-both s before mid after (ran-some s run before mid r) f

pub collect-cuts : {T : Type 0} (s : Setting T) (run : Option Run) (save : Option SaveOf) (before ran_at saved_at after : Events T) → RunsOne s run before ran_at →
    SavesOne s save ran_at saved_at → Adds s [] saved_at after → Cuts s before after NoMemory
collect-cuts s run save before ran_at saved_at after r v a =
    some-both s before saved_at after (some-both s before ran_at saved_at (ran-some s run before ran_at r) (saved-some s save ran_at saved_at v)) ([], a)

-- ---- rounds one after another

pub rounds-none : {T : Type 0} (s : Setting T) (noes : ℕ) (events : Events T) → StopsAfter s (record { before = noes; now = noes }) events events
rounds-none s noes events = record { rounds = []; all = added-none s events; counted = omega arith }

pub rounds-one : {T : Type 0} (s : Setting T) (noes now now' : ℕ) (round : Round) (before mid after : Events T) → now' ≡ now + 1 →
    StopsAfter s (record { before = noes; now = now }) before mid → IsRound s round mid after → StopsAfter s (record { before = noes; now = now' }) before after
rounds-one s noes now now' round before mid after one r i =
    let same : now ≡ noes + length r.rounds = r.counted in
    record { rounds = round ∷ r.rounds; all = (mid, r.all, i); counted = omega arith }

pub rounds-fail : {T : Type 0} (s : Setting T) (noes now now' : ℕ) (before mid after : Events T) (error : WorkError) → now' ≡ now + 1 →
    StopsAfter s (record { before = noes; now = now }) before mid → Cuts s mid after error → FailsAfter s (record { before = noes; now = now' }) error before after
rounds-fail s noes now now' before mid after error one r c =
    let same : now ≡ noes + length r.rounds = r.counted in
    record { rounds = r.rounds; cut_at = mid; earlier = r.all; cut = c; counted = omega arith }

failed-so : {T : Type 0} (s : Setting T) (noes : NoCount) (before after : Events T) (error : WorkError) → FailsAfter s noes error before after →
    MakesRounds s noes before after (ended_by error)
failed-so s noes before after StoreFault f = f
failed-so s noes before after (Damaged damage) f = f
failed-so s noes before after NoMemory f = f

pub rounds-ended : {T : Type 0} (s : Setting T) (noes : NoCount) (before after : Events T) (error : WorkError) (end : CrewEnd) → end ≡ ended_by error → FailsAfter s noes error before after →
    MakesRounds s noes before after end
rounds-ended s noes before after error end is f =
    subst (λ (e : CrewEnd). MakesRounds s noes before after e) (sym is) (failed-so s noes before after error f)
