-- Runs of records' jobs.
use Rattle.std.specs.Prelude.{◌≡◌, ℕ, Bool, true, false, not, List, [], ◌∷◌, ◌++◌, length, filter, None}
use Rattle.std.specs.List.{flat_map, list_all}
use Rattle.tl_types.specs.Same.{worker_same}
use Rattle.tl_types.specs.declared.actor.Actor.{Actor}
use Rattle.tl_types.specs.declared.record_id.RecordId.{RecordId}
use Rattle.tl_types.specs.declared.worker_id.WorkerId.{WorkerId}
use Rattle.tl_model.specs.declared.event.Act.{Act}
use Rattle.tl_model.specs.declared.event.Act.TheVariants.{Claim, Done, Back, Lose}
use Rattle.tl_model.specs.declared.event.Event.{Event}
use Rattle.tl_model.specs.Actors.{open_claim}
use Rattle.tl_model.specs.Past.{Past, without_tickets}
use Rattle.tl_pieces.specs.Setting.{Setting, Events, event_by}
use Rattle.tl_pieces.specs.Own.{Adds}
use Rattle.tl_pieces.specs.Moments.{is_quiet_end}

-- how a run ended: its outputs were brought, its claim was given back, or a loss of its worker
-- took it
pub data RunEnd : Type 0 where
  Installed : RunEnd
  GivenBack : RunEnd
  Lost : RunEnd

abbrev pub ends_installed : RunEnd → Bool
ends_installed Installed = true
ends_installed _ = false

abbrev pub ends_given_back : RunEnd → Bool
ends_given_back GivenBack = true
ends_given_back _ = false

-- a run of a record's job
pub record Run : Type 0 where
  pub made : RecordId
  pub end : RunEnd

abbrev pub loses : {T : Type 0} → WorkerId → Act T → Bool
loses worker (Lose other) = worker_same worker other
loses worker _ = false

-- the actor's event that ended it, where there is one
abbrev pub ending : {T : Type 0} → Actor → WorkerId → RecordId → RunEnd → Events T
ending actor worker made Installed = event_by actor (Done worker made) ∷ []
ending actor worker made GivenBack = event_by actor (Back made) ∷ []
ending actor worker made Lost = []

-- the event takes the worker's memory, and with it each claim on the worker
abbrev pub is_loss : {T : Type 0} → WorkerId → Event T → Bool
is_loss worker e = loses worker e.act

-- its claim and its end
abbrev pub run_of : {T : Type 0} → Actor → WorkerId → Run → Events T
run_of actor worker run =
    ending actor worker run.made run.end ++ event_by actor (Claim worker run.made) ∷ []

-- The actor looked, and found it so; then it claimed the record on the worker, and the run ended
-- so.
pub record IsRun {T : Type 0} (s : Setting T) (worker : WorkerId) (is_so : Past → Bool) (run : Run)
    (before after : Events T) : Type 0 where
  pub looked_at : Events T
  pub claimed_at : Events T
  pub looks : Adds s [] before looked_at
  pub quiet : is_quiet_end s looked_at ≡ true
  pub so : is_so (without_tickets looked_at) ≡ true
  pub claims : Adds s (event_by s.actor (Claim worker run.made) ∷ []) looked_at claimed_at
  pub ends : Adds s (ending s.actor worker run.made run.end) claimed_at after
  pub closed : open_claim (without_tickets after) s.actor ≡ None

-- these runs came one after another on the worker, the last first, each begun where this was so
abbrev pub Ran : {T : Type 0} →
    Setting T → WorkerId → (Past → Bool) → List Run → Events T → Events T → Type 0
Ran s worker is_so [] before after = Adds s [] before after
Ran {T} s worker is_so (run ∷ earlier) before after =
    (mid : Events T) × Ran s worker is_so earlier before mid × IsRun s worker is_so run mid after

-- their claims and their ends, one run after another
abbrev pub runs_of : {T : Type 0} → Actor → WorkerId → List Run → Events T
runs_of actor worker runs = flat_map (run_of actor worker) runs

abbrev pub is_installed : Run → Bool
is_installed run = ends_installed run.end

-- how many runs brought their outputs
abbrev pub installed : List Run → ℕ
installed runs = length (filter is_installed runs)

-- a run whose claim was not given back
abbrev pub is_kept_up : Run → Bool
is_kept_up run = not (ends_given_back run.end)

-- no claim was given back
abbrev pub all_kept_up : List Run → Bool
all_kept_up runs = list_all is_kept_up runs

-- no claim was given back but that of the last run
abbrev pub but_last_kept_up : List Run → Bool
but_last_kept_up [] = true
but_last_kept_up (last ∷ earlier) = all_kept_up earlier
