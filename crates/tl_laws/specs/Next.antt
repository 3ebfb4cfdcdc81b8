-- The record that is next: an accepted job that is a task and can be run.
use Rattle.std.specs.Prelude.{◌≡◌, ℕ, true, List, slice_get, Some}
use Rattle.tl_types.specs.declared.record_id.RecordId.{RecordId}
use Rattle.tl_model.specs.declared.record.Record.{Record}
use Rattle.tl_model.specs.Past.{Past}
use Rattle.tl_model.specs.History.{records, record_at, id_of, is_job, inputs_of}
use Rattle.tl_model.specs.Residency.{all_available}
use Rattle.tl_model.specs.Plan.{is_task}

-- something of a list
abbrev pub IsAmong : {A : Type 0} → List A → A → Type 0
IsAmong xs x = (i : ℕ) × (slice_get xs i ≡ Some x)

-- what is known of the record that is next
pub record IsNext (past : Past) (made : RecordId) : Type 0 where
  pub it : Record
  pub place : IsAmong (records past) it
  pub at : record_at past made ≡ Some it
  pub id : id_of it ≡ made
  pub job : is_job it ≡ true
  pub task : is_task past (id_of it) ≡ true
  pub fed : all_available past (inputs_of it) ≡ true
