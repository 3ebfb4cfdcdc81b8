-- Why a line was not answered.
use Rattle.std.specs.Prelude.{◌≡◌, ℕ, Bool, true, false, ◌||◌, List, [], ◌∷◌, ◌++◌, Some}
use Rattle.tl_types.specs.Same.{file_same}
use Rattle.tl_types.specs.declared.file_id.FileId.{FileId}
use Rattle.tl_types.specs.declared.worker_id.WorkerId.{WorkerId}
use Rattle.tl_io.specs.Counts.{Rises}
use Rattle.tl_model.specs.declared.answer.Damage.{Damage}
use Rattle.tl_model.specs.declared.command.Command.{Command}
use Rattle.tl_model.specs.Past.{Past, without_tickets}
use Rattle.tl_model.specs.Residency.{reads_of_claim, saved_as}
use Rattle.tl_pieces.specs.Setting.{Setting, Events}
use Rattle.tl_pieces.specs.Runs.{Run}
use Rattle.tl_pieces.specs.Reading.{IsReadGivenUp, IsTryGivenUp}
use Rattle.tl_pieces.specs.Counts.{IsWorkGivenUp}

-- how many faults a depot had met before a line, and after it
pub record FaultCount : Type 0 where
  pub before : ℕ
  pub now : ℕ

-- the depot met a fault in the line
abbrev pub StoreFailed : FaultCount → Type 0
StoreFailed count = Rises count.before count.now

-- A load that the line makes gave something else than was saved: the kept length and digest are
-- those of the file's Saved, and what was got has another length or another digest. No store that
-- tells does so.
pub record IsDamage {T : Type 0} (s : Setting T) (is_loaded : Past → FileId → Bool)
    (after : Events T) (damage : Damage) : Type 0 where
  pub file : FileId
  pub at : Events T
  pub later : Events T
  pub within : after ≡ later ++ at
  pub loaded : is_loaded (without_tickets at) file ≡ true
  pub kept : saved_as (without_tickets at) file
      ≡ Some (record { size = damage.kept_len; digest = damage.kept })
  pub differs : damage.got_len ≡ damage.kept_len → damage.got ≡ damage.kept → ⊥
  pub untold : s.tells ≡ false

-- an input of the record whose run was the last
abbrev pub is_input_of_last : List Run → Past → FileId → Bool
is_input_of_last [] past f = false
is_input_of_last (last ∷ earlier) past f = reads_of_claim past f last.made

-- the file that a read opened, or an input of its last run
abbrev pub is_read_or_input : FileId → List Run → Past → FileId → Bool
is_read_or_input opened runs past f = file_same opened f || is_input_of_last runs past f

-- ---- the lines that load

-- a read that waited was given up for a damage
abbrev pub IsReadDamaged : {T : Type 0} →
    Setting T → Command T → Events T → Events T → Damage → ℕ → Type 0
IsReadDamaged s command before after damage number =
    (read : IsReadGivenUp s command number before after)
    × IsDamage s (is_read_or_input read.file read.runs) after damage

-- a read that looked once was given up for a damage
abbrev pub IsTryDamaged : {T : Type 0} →
    Setting T → Command T → Events T → Events T → Damage → ℕ → Type 0
IsTryDamaged s command before after damage number =
    (read : IsTryGivenUp s command number before after)
    × IsDamage s (is_read_or_input read.file []) after damage

-- work was given up for a damage
abbrev pub IsWorkDamaged : {T : Type 0} →
    Setting T → WorkerId → ℕ → Events T → Events T → Damage → Type 0
IsWorkDamaged s worker n before after damage =
    (work : IsWorkGivenUp s worker n before after)
    × IsDamage s (is_input_of_last (work.last ∷ [])) after damage
