-- The rounds of a crew thread, and how they ended.
use Rattle.std.specs.Prelude.{◌≡◌, ◌⊎◌, ℕ, ◌+◌, Bool, true, false, List, [], ◌∷◌, length, Option, Some, None}
use Rattle.tl_types.specs.declared.file_id.FileId.{FileId}
use Rattle.tl_types.specs.declared.record_id.RecordId.{RecordId}
use Rattle.tl_model.specs.declared.answer.Damage.{Damage}
use Rattle.tl_model.specs.Past.{Past, without_tickets}
use Rattle.tl_pieces.specs.Setting.{Setting, Events}
use Rattle.tl_pieces.specs.Own.{Adds}
use Rattle.tl_pieces.specs.Moments.{is_quiet_end}
use Rattle.tl_pieces.specs.Runs.{IsRun, Run, is_installed, is_kept_up}
use Rattle.tl_pieces.specs.Counts.{GivenUp, IsSave, LetGo, SaveOf, anywhere, is_kept, nothing_is_next, nothing_is_unneeded, nothing_to_save}
use Rattle.tl_pieces.specs.Faults.{IsDamage}
use Rattle.tl_pieces.specs.Lines.{AddsSome}
use Rattle.tl_work.specs.declared.error.WorkError.{WorkError}
use Rattle.tl_work.specs.declared.error.WorkError.TheVariants as work
use Rattle.tl_work.specs.Runs.{is_input}
use Rattle.tl_crew.specs.declared.crew.CrewEnd.{CrewEnd}
use Rattle.tl_crew.specs.declared.crew.CrewEnd.TheVariants.{Stopped, StoreFault, Damaged, NoMemory}

-- ---- a round

-- The actor did nothing. Meanwhile there was a quiet end of the journal, on all that it had seen
-- before, at which this was so.
pub record Passes {T : Type 0} (s : Setting T) (is_so : Past → Bool) (before after : Events T) :
    Type 0 where
  pub at : Events T
  pub found : Adds s [] before at
  pub quiet : is_quiet_end s at ≡ true
  pub so : is_so (without_tickets at) ≡ true
  pub since : Adds s [] at after

-- a run on the worker whose claim was not given back; or none, where none was next
abbrev pub RunsOne : {T : Type 0} → Setting T → Option Run → Events T → Events T → Type 0
RunsOne s None before after = Passes s (nothing_is_next s.header) before after
RunsOne s (Some run) before after =
    (is_kept_up run ≡ true) × IsRun s s.worker anywhere run before after

-- a save that was kept; or none, where nothing was to be saved
abbrev pub SavesOne : {T : Type 0} → Setting T → Option SaveOf → Events T → Events T → Type 0
SavesOne s None before after = Passes s (nothing_to_save s.header) before after
SavesOne s (Some save) before after = (is_kept save ≡ true) × IsSave s save before after

-- the least record that was kept and not needed was let go; or none, where there was none
abbrev pub CollectsOne : {T : Type 0} → Setting T → Option RecordId → Events T → Events T → Type 0
CollectsOne s None before after = Passes s nothing_is_unneeded before after
CollectsOne s (Some made) before after = LetGo s (made ∷ []) before after

-- what a round did
pub record Round : Type 0 where
  pub run : Option Run
  pub save : Option SaveOf
  pub gone : Option RecordId

-- A round: at most one run, then at most one save, then at most one record let go.
pub record IsRound {T : Type 0} (s : Setting T) (round : Round) (before after : Events T) :
    Type 0 where
  pub ran_at : Events T
  pub saved_at : Events T
  pub ran : RunsOne s round.run before ran_at
  pub saved : SavesOne s round.save ran_at saved_at
  pub collected : CollectsOne s round.gone saved_at after

-- these rounds came one after another, the last first
abbrev pub AreRounds : {T : Type 0} → Setting T → List Round → Events T → Events T → Type 0
AreRounds s [] before after = Adds s [] before after
AreRounds {T} s (round ∷ earlier) before after =
    (mid : Events T) × AreRounds s earlier before mid × IsRound s round mid after

-- ---- a round that was cut short

-- its run was given back or lost, and nothing came after it
pub record CutsRun {T : Type 0} (s : Setting T) (before after : Events T) : Type 0 where
  pub run : Run
  pub failed : is_installed run ≡ false
  pub ran : IsRun s s.worker anywhere run before after

-- its save was given up, and nothing came after it
pub record CutsSave {T : Type 0} (s : Setting T) (before after : Events T) : Type 0 where
  pub run : Option Run
  pub ran_at : Events T
  pub ran : RunsOne s run before ran_at
  pub file : FileId
  pub saved : IsSave s (record { file = file; end = GivenUp }) ran_at after

-- its run was given back or lost, for a damage of one of the record's inputs
abbrev pub CutsForDamage : {T : Type 0} → Setting T → Events T → Events T → Damage → Type 0
CutsForDamage s before after damage =
    (cut : CutsRun s before after) × IsDamage s (is_input cut.run.made) after damage

-- Why a round was cut short, and where. For want of memory nothing is said but that what came is
-- the actor's and others'.
abbrev pub Cuts : {T : Type 0} → Setting T → Events T → Events T → WorkError → Type 0
Cuts s before after work.StoreFault = CutsRun s before after ⊎ CutsSave s before after
Cuts s before after (work.Damaged damage) = CutsForDamage s before after damage
Cuts s before after work.NoMemory = AddsSome s before after

-- ---- all rounds of a thread

-- how often it was answered that it shall not stop
pub record NoCount : Type 0 where
  pub before : ℕ
  pub now : ℕ

-- a round for each no
pub record StopsAfter {T : Type 0} (s : Setting T) (noes : NoCount) (before after : Events T) :
    Type 0 where
  pub rounds : List Round
  pub all : AreRounds s rounds before after
  pub counted : noes.now ≡ noes.before + length rounds

-- a round for each no, of which the last was cut short
pub record FailsAfter {T : Type 0} (s : Setting T) (noes : NoCount) (error : WorkError)
    (before after : Events T) : Type 0 where
  pub rounds : List Round
  pub cut_at : Events T
  pub earlier : AreRounds s rounds before cut_at
  pub cut : Cuts s cut_at after error
  pub counted : noes.now ≡ noes.before + length rounds + 1

-- what ended the thread
abbrev pub ended_by : WorkError → CrewEnd
ended_by work.StoreFault = StoreFault
ended_by (work.Damaged damage) = Damaged damage
ended_by work.NoMemory = NoMemory

-- the rounds of a thread that ended so
abbrev pub MakesRounds : {T : Type 0} → Setting T → NoCount → Events T → Events T → CrewEnd → Type 0
MakesRounds s noes before after Stopped = StopsAfter s noes before after
MakesRounds s noes before after StoreFault = FailsAfter s noes work.StoreFault before after
MakesRounds s noes before after (Damaged damage) =
    FailsAfter s noes (work.Damaged damage) before after
MakesRounds s noes before after NoMemory = FailsAfter s noes work.NoMemory before after
