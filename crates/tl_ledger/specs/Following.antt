-- When the tables of names keep step with a history.
use Rattle.std.specs.Prelude.{◌≡◌, ◌≤◌, ℕ, length}
use Rattle.tl_model.specs.History.{HistoryOf, records_of}
use Rattle.tl_model.specs.Replies.{record_limit}
use Rattle.tl_names.specs.Answers.{Tables, IsNamesOf}

-- the tables are those of the history, and so many records were accepted, at most as many as there
-- may be
pub record Follows {T : Type 0} (tables : Tables) (accepted : ℕ)
    (calls : HistoryOf T) : Type 0 where
  pub names : IsNamesOf tables calls
  pub counted : accepted ≡ length (records_of calls)
  pub few : accepted ≤ record_limit
