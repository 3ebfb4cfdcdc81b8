-- What is done so many times: losses, runs, saves and collections.
use Rattle.std.specs.Prelude.{◌≡◌, ◌<◌, ◌≤◌, ℕ, Bool, true, false, List, [], ◌∷◌, length, Some, is_none}
use Rattle.std.specs.List.{flat_map, list_all}
use Rattle.tl_types.specs.Outcome.{digest_of, outcome_size}
use Rattle.tl_types.specs.declared.actor.Actor.{Actor}
use Rattle.tl_types.specs.declared.file_id.FileId.{FileId}
use Rattle.tl_types.specs.declared.outcome.Outcome.{Outcome}
use Rattle.tl_types.specs.declared.record_id.RecordId.{RecordId}
use Rattle.tl_types.specs.declared.worker_id.WorkerId.{WorkerId}
use Rattle.tl_model.specs.declared.answer.Answer.{Answer}
use Rattle.tl_model.specs.declared.answer.Answer.TheVariants.{Count, Lost}
use Rattle.tl_model.specs.declared.answer.Counted.TheVariants as counted
use Rattle.tl_model.specs.declared.event.Act.{Act}
use Rattle.tl_model.specs.declared.event.Act.TheVariants.{Lose, Save, Saved, Unsave, Collect}
use Rattle.tl_model.specs.declared.event.Event.{Event}
use Rattle.tl_model.specs.declared.header.Header.{Header}
use Rattle.tl_model.specs.Checkpoints.{next_save}
use Rattle.tl_model.specs.Needs.{garbage}
use Rattle.tl_model.specs.Past.{Past, events_with, without_tickets}
use Rattle.tl_model.specs.Plan.{next}
use Rattle.tl_model.specs.Values.{value}
use Rattle.tl_pieces.specs.Setting.{Setting, Events, event_by}
use Rattle.tl_pieces.specs.Own.{Adds, Does}
use Rattle.tl_pieces.specs.Moments.{Moment}
use Rattle.tl_pieces.specs.Runs.{Run, Ran, all_kept_up, installed, is_installed}

-- So many of n were done, up to these events: fewer only where the actor had done as much as by
-- then at a moment at which there was nothing more to do.
pub record IsCount {T : Type 0} (s : Setting T) (nothing_left : Past → Bool) (n k : ℕ)
    (after : Events T) : Type 0 where
  pub within : k ≤ n
  pub short : k < n → Moment s nothing_left after after

-- ---- a loss

abbrev pub IsLoss : {T : Type 0} → Setting T → WorkerId → Events T → Events T → Answer → Type 0
IsLoss s worker before after (Lost lost) =
    (lost ≡ worker) × Adds s (event_by s.actor (Lose worker) ∷ []) before after
IsLoss s worker before after _ = ⊥

-- ---- runs

-- a run may begin wherever a record is next
abbrev pub anywhere : Past → Bool
anywhere past = true

abbrev pub nothing_is_next : Header → Past → Bool
nothing_is_next header past = is_none (next header.order past)

-- runs on the worker, of which k brought their outputs
pub record IsWorked {T : Type 0} (s : Setting T) (worker : WorkerId) (n k : ℕ)
    (before after : Events T) : Type 0 where
  pub runs : List Run
  pub ran : Ran s worker anywhere runs before after
  pub kept_up : all_kept_up runs ≡ true
  pub counted : k ≡ installed runs
  pub enough : IsCount s (nothing_is_next s.header) n k after

-- runs on the worker, of which fewer than n brought their outputs and the last brought none
pub record IsWorkGivenUp {T : Type 0} (s : Setting T) (worker : WorkerId) (n : ℕ)
    (before after : Events T) : Type 0 where
  pub last : Run
  pub earlier : List Run
  pub ran : Ran s worker anywhere (last ∷ earlier) before after
  pub kept_up : all_kept_up earlier ≡ true
  pub failed : is_installed last ≡ false
  pub fewer : installed earlier < n

-- ---- saves

-- how a save ended: the file is saved as this outcome, or the save was given up
pub data SaveEnd : Type 0 where
  Kept : Outcome → SaveEnd
  GivenUp : SaveEnd

-- a save of a file
pub record SaveOf : Type 0 where
  pub file : FileId
  pub end : SaveEnd

-- with the outcome's size and digest
abbrev pub saved_as : {T : Type 0} → FileId → Outcome → Act T
saved_as f outcome = Saved f (outcome_size outcome) (record { 0 = digest_of outcome })

abbrev pub save_ending : {T : Type 0} → FileId → SaveEnd → Act T
save_ending f (Kept outcome) = saved_as f outcome
save_ending f GivenUp = Unsave f

-- where told the file holds the outcome that it was saved as
abbrev pub IsKeptAs : {T : Type 0} → Setting T → Events T → FileId → SaveEnd → Type 0
IsKeptAs s events f (Kept outcome) =
    s.tells ≡ true → outcome ≡ value (events_with s.content events) f
IsKeptAs s events f GivenUp = Unit {0}

-- The actor took up the file where it was the first to be saved, and the save ended so.
pub record IsSave {T : Type 0} (s : Setting T) (save : SaveOf) (before after : Events T) :
    Type 0 where
  pub found_at : Events T
  pub ended_at : Events T
  pub found : Adds s [] before found_at
  pub first : next_save s.header (without_tickets found_at) ≡ Some save.file
  pub begun : Does s (Save save.file) found_at ended_at
  pub ended : Does s (save_ending save.file save.end) ended_at after
  pub told : IsKeptAs s found_at save.file save.end

-- their Saves and their ends, one save after another
abbrev pub save_of : {T : Type 0} → Actor → SaveOf → Events T
save_of actor save =
    event_by actor (save_ending save.file save.end) ∷ event_by actor (Save save.file) ∷ []

abbrev pub saves_of : {T : Type 0} → Actor → List SaveOf → Events T
saves_of actor saves = flat_map (save_of actor) saves

-- these saves came one after another, the last first
abbrev pub Saving : {T : Type 0} → Setting T → List SaveOf → Events T → Events T → Type 0
Saving s [] before after = Adds s [] before after
Saving {T} s (save ∷ earlier) before after =
    (mid : Events T) × Saving s earlier before mid × IsSave s save mid after

abbrev pub ends_kept : SaveEnd → Bool
ends_kept (Kept outcome) = true
ends_kept GivenUp = false

abbrev pub is_kept : SaveOf → Bool
is_kept save = ends_kept save.end

abbrev pub nothing_to_save : Header → Past → Bool
nothing_to_save header past = is_none (next_save header past)

-- k saves, each of which was kept
pub record IsSaving {T : Type 0} (s : Setting T) (n k : ℕ) (before after : Events T) : Type 0 where
  pub saves : List SaveOf
  pub saved : Saving s saves before after
  pub kept : list_all is_kept saves ≡ true
  pub counted : k ≡ length saves
  pub enough : IsCount s (nothing_to_save s.header) n k after

-- fewer than n saves that were kept, and a last one that was given up
pub record IsSavingGivenUp {T : Type 0} (s : Setting T) (n : ℕ) (before after : Events T) :
    Type 0 where
  pub file : FileId
  pub earlier : List SaveOf
  pub saved : Saving s (record { file = file; end = GivenUp } ∷ earlier) before after
  pub kept : list_all is_kept earlier ≡ true
  pub fewer : length earlier < n

-- ---- collections

abbrev pub collect_of : {T : Type 0} → Actor → RecordId → Event T
collect_of actor made = event_by actor (Collect made)

-- these records were let go one after another, the last first, each the least that was kept and
-- not needed
abbrev pub LetGo : {T : Type 0} → Setting T → List RecordId → Events T → Events T → Type 0
LetGo s [] before after = Adds s [] before after
LetGo {T} s (made ∷ earlier) before after =
    (mid : Events T) × LetGo s earlier before mid
    × (garbage (without_tickets mid) ≡ Some made) × Does s (Collect made) mid after

abbrev pub nothing_is_unneeded : Past → Bool
nothing_is_unneeded past = is_none (garbage past)

pub record IsCollected {T : Type 0} (s : Setting T) (n k : ℕ) (before after : Events T) :
    Type 0 where
  pub records : List RecordId
  pub gone : LetGo s records before after
  pub counted : k ≡ length records
  pub enough : IsCount s nothing_is_unneeded n k after

-- ---- answers

abbrev pub IsWorkAnswer : {T : Type 0} →
    Setting T → WorkerId → ℕ → Events T → Events T → Answer → Type 0
IsWorkAnswer s worker n before after (Count counted.Work k) = IsWorked s worker n k before after
IsWorkAnswer s worker n before after _ = ⊥

abbrev pub IsSaveAnswer : {T : Type 0} → Setting T → ℕ → Events T → Events T → Answer → Type 0
IsSaveAnswer s n before after (Count counted.Save k) = IsSaving s n k before after
IsSaveAnswer s n before after _ = ⊥

abbrev pub IsCollectAnswer : {T : Type 0} → Setting T → ℕ → Events T → Events T → Answer → Type 0
IsCollectAnswer s n before after (Count counted.Collect k) = IsCollected s n k before after
IsCollectAnswer s n before after _ = ⊥
