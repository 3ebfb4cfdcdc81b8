-- How an open read goes on, and how it ends.
use Rattle.std.specs.Prelude.{◌≡◌, Bool, true, List, [], ◌∷◌, Option, Some, None}
use Rattle.tl_types.specs.Block.{FileOutcome}
use Rattle.tl_types.specs.Same.{file_same}
use Rattle.tl_types.specs.declared.file_id.FileId.{FileId}
use Rattle.tl_model.specs.declared.answer.Damage.{Damage}
use Rattle.tl_model.specs.declared.event.Act.TheVariants.{Shut}
use Rattle.tl_model.specs.Actors.{is_idle}
use Rattle.tl_model.specs.Past.{Past, without_tickets}
use Rattle.tl_model.specs.Rules.{may_claim}
use Rattle.tl_desk.specs.Turns.{IsReading}
use Rattle.tl_pieces.specs.Setting.{Setting, Events, event_by}
use Rattle.tl_pieces.specs.Own.{Adds}
use Rattle.tl_pieces.specs.Moments.{Moment}
use Rattle.tl_pieces.specs.Faults.{IsDamage, is_read_or_input}
use Rattle.tl_pieces.specs.Reading.{IsServed, is_missing}
use Rattle.tl_pieces.specs.Runs.{Ran, Run, all_kept_up, but_last_kept_up}
use Rattle.tl_work.specs.declared.error.WorkError.{WorkError}
use Rattle.tl_work.specs.declared.error.WorkError.TheVariants.{StoreFault, Damaged, NoMemory}

-- the actor has a read open on the file, and nothing else
pub record IsWaiting {T : Type 0} (s : Setting T) (f : FileId) (events : Events T) : Type 0 where
  pub reading : IsReading events s.actor f
  pub free : may_claim (without_tickets events) s.actor ≡ true

-- the actor has nothing open
abbrev pub IsIdle : {T : Type 0} → Setting T → Events T → Type 0
IsIdle s events = is_idle (without_tickets events) s.actor ≡ true

-- ---- one look

-- the read was served by a block of its file, and its actor has nothing open; or nothing was done,
-- and the file was missing
abbrev pub LooksOnce : {T : Type 0} →
    Setting T → FileId → Events T → Events T → Option FileOutcome → Type 0
LooksOnce s f before after (Some block) =
    (block.file ≡ f) × IsServed s block before after × IsIdle s after
LooksOnce s f before after None =
    Adds s [] before after × (is_missing f (without_tickets after) ≡ true) × IsWaiting s f after

-- the file itself
abbrev pub is_file : FileId → Past → FileId → Bool
is_file f past g = file_same f g

-- the load of the file was damaged, if that is why the look failed
abbrev pub WhyLookFails : {T : Type 0} → Setting T → FileId → Events T → WorkError → Type 0
WhyLookFails s f after (Damaged damage) = IsDamage s (is_file f) after damage
WhyLookFails s f after _ = Unit {0}

-- nothing was done, and the read is open still
pub record LookFails {T : Type 0} (s : Setting T) (f : FileId) (before after : Events T)
    (error : WorkError) : Type 0 where
  pub came : Adds s [] before after
  pub waiting : IsWaiting s f after
  pub why : WhyLookFails s f after error

-- where nobody else uses the cluster, nothing comes with a look that finds nothing
abbrev pub FindsNothing : {T : Type 0} → Events T → Events T → Option FileOutcome → Type 0
FindsNothing before after (Some block) = Unit {0}
FindsNothing before after None = after ≡ before

-- ---- many looks, and runs between them

-- as long as the file was missing, what was next was run; then the read was served by a block of it
pub record ServesAtLast {T : Type 0} (s : Setting T) (f : FileId) (before after : Events T)
    (block : FileOutcome) : Type 0 where
  pub runs : List Run
  pub ran_at : Events T
  pub ran : Ran s s.worker (is_missing f) runs before ran_at
  pub kept_up : all_kept_up runs ≡ true
  pub of_file : block.file ≡ f
  pub served : IsServed s block ran_at after
  pub idle : IsIdle s after

-- as long as the file was missing, what was next was run, the last time perhaps in vain
pub record WaitsInVain {T : Type 0} (s : Setting T) (f : FileId) (before after : Events T) :
    Type 0 where
  pub runs : List Run
  pub ran : Ran s s.worker (is_missing f) runs before after
  pub kept_up : but_last_kept_up runs ≡ true

-- a load of the file or of an input of the last run was damaged
abbrev pub WaitDamaged : {T : Type 0} →
    Setting T → FileId → Events T → Events T → Damage → Type 0
WaitDamaged s f before after damage =
    (wait : WaitsInVain s f before after) × IsDamage s (is_read_or_input f wait.runs) after damage

-- why a read that waits was not served
abbrev pub WaitFails : {T : Type 0} →
    Setting T → FileId → Events T → Events T → WorkError → Type 0
WaitFails s f before after StoreFault = WaitsInVain s f before after
WaitFails s f before after (Damaged damage) = WaitDamaged s f before after damage
WaitFails {T} s f before after NoMemory = (mine : Events T) × Adds s mine before after

-- ---- given up

-- the same, and then the read was given up
pub record GivesUpReading {T : Type 0} (s : Setting T) (f : FileId) (before after : Events T)
    (error : WorkError) : Type 0 where
  pub ran_at : Events T
  pub failed : WaitFails s f before ran_at error
  pub shut : Adds s (event_by s.actor (Shut f) ∷ []) ran_at after
  pub idle : IsIdle s after

-- so far, as long as the file was missing, what was next was run
pub record WaitsSoFar {T : Type 0} (s : Setting T) (f : FileId) (before after : Events T) :
    Type 0 where
  pub runs : List Run
  pub ran : Ran s s.worker (is_missing f) runs before after
  pub kept_up : all_kept_up runs ≡ true

-- ---- a read that looks once

-- the read was given up right after the look, and its actor has nothing open
pub record ShutAfter {T : Type 0} (s : Setting T) (f : FileId) (before after : Events T) :
    Type 0 where
  pub shut : Adds s (event_by s.actor (Shut f) ∷ []) before after
  pub idle : IsIdle s after

-- the read was served; or it was given up, and at a moment of the look the file was missing
abbrev pub TriesOnce : {T : Type 0} →
    Setting T → FileId → Events T → Events T → Option FileOutcome → Type 0
TriesOnce s f before after (Some block) = LooksOnce s f before after (Some block)
TriesOnce s f before after None =
    ShutAfter s f before after × Moment s (is_missing f) before after

-- the read was given up, and why
abbrev pub TryFails : {T : Type 0} →
    Setting T → FileId → Events T → Events T → WorkError → Type 0
TryFails s f before after error = ShutAfter s f before after × WhyLookFails s f after error
