-- A machine as it is seen: what it will answer, and how far it has come.
use Rattle.std.specs.Prelude.{◌≡◌, ◌≤◌, ◌<◌, ◌+◌, ℕ, Bool, true, false, List, []}
use Rattle.tl_types.specs.declared.outcome.Outcome.{Outcome}
use Rattle.tl_eval.specs.declared.machine.Slice.{Slice}
use Rattle.tl_eval.specs.declared.machine.Slice.TheVariants.{More, Done}
use Rattle.tl_eval.specs.declared.machine.State.{State}
use Rattle.tl_eval.specs.declared.machine.State.TheVariants.{Going, Over, Answered, Failed}
use Rattle.tl_eval.specs.Running.{IsUnderWay, will_answer, will_enter, has_entered}

-- the outcomes that it will answer, how many expressions it will have entered in all, and how many it has
pub record Evaluation : Type 0 where
  pub outcomes : List Outcome
  pub total : ℕ
  pub entered : ℕ
  pub is_answered : Bool
  pub has_failed : Bool

-- a machine that memory ran out for
abbrev pub failed : Evaluation
failed = record { outcomes = []; total = 0; entered = 0; is_answered = false; has_failed = true }

abbrev pub seen : State → Evaluation
seen (Going r) = record { outcomes = will_answer r; total = will_enter r; entered = has_entered r; is_answered = false; has_failed = false }
seen (Over end) = record { outcomes = end.outcomes.items; total = end.entered; entered = end.entered; is_answered = false; has_failed = false }
seen (Answered n) = record { outcomes = []; total = n; entered = n; is_answered = true; has_failed = false }
seen Failed = failed

abbrev pub IsSound : State → Type 0
IsSound (Going r) = IsUnderWay r
IsSound (Over end) = Unit {0}
IsSound (Answered n) = Unit {0}
IsSound Failed = Unit {0}

-- what a slice of so many units answers: there is more exactly where more expressions are entered in all
abbrev pub Answers : Evaluation → ℕ → Slice → Evaluation → Type 0
Answers old units More new = (new ≡ record old { entered = old.entered + units }) × (old.entered + units < old.total)
Answers old units (Done outcomes) new =
    (outcomes.items ≡ old.outcomes) × (old.total ≤ old.entered + units)
    × (new ≡ record { outcomes = []; total = old.total; entered = old.total; is_answered = true; has_failed = false })
