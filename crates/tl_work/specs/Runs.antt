-- How the job that is next is run over a desk.
use Rattle.std.specs.Prelude.{◌≡◌, ◌<◌, ℕ, Bool, true, false, List, [], ◌∷◌, length, map, Option, Some, None}
use Rattle.std.specs.List.{All}
use Rattle.tl_types.specs.declared.actor.Actor.{Actor}
use Rattle.tl_types.specs.declared.file_id.FileId.{FileId}
use Rattle.tl_types.specs.declared.record_id.RecordId.{RecordId}
use Rattle.tl_model.specs.declared.answer.Damage.{Damage}
use Rattle.tl_model.specs.declared.event.Act.TheVariants.{Done}
use Rattle.tl_model.specs.declared.record.Record.TheVariants as kind
use Rattle.tl_model.specs.Actors.{open_claim}
use Rattle.tl_model.specs.History.{record_at}
use Rattle.tl_model.specs.Past.{Past, events_with, without_tickets}
use Rattle.tl_model.specs.Plan.{next, tasks}
use Rattle.tl_model.specs.Tables.{chosen}
use Rattle.tl_model.specs.Residency.{reads_of_claim}
use Rattle.tl_model.specs.Values.{value}
use Rattle.tl_cluster.specs.declared.work.Work.{Work}
use Rattle.tl_cluster.specs.Losses.{incarnation}
use Rattle.tl_laws_drops.specs.Drops.{DropsFollow}
use Rattle.tl_pieces.specs.Setting.{Setting, Events, event_by}
use Rattle.tl_pieces.specs.Own.{Adds}
use Rattle.tl_pieces.specs.Faults.{IsDamage}
use Rattle.tl_pieces.specs.Runs.{Installed, IsRun, Lost, Run, RunEnd, ending, is_installed}
use Rattle.tl_work.specs.declared.error.WorkError.{WorkError}
use Rattle.tl_work.specs.declared.error.WorkError.TheVariants.{StoreFault, Damaged, NoMemory}
use Rattle.tl_work.specs.declared.run.Ran.{Ran}
use Rattle.tl_work.specs.declared.run.Ran.TheVariants as ran
use Rattle.tl_work.specs.Loads.{IsDamageAmong, IsLoadableFeed, fed_outcome}

-- how a run ended that was not given up
abbrev pub end_of : Ran → RunEnd
end_of ran.Installed = Installed
end_of ran.Lost = Lost

-- the run was begun where these events were seen, whatever was so of them
abbrev pub RunsFrom : {T : Type 0} → Setting T → Run → Events T → Events T → Type 0
RunsFrom s run before after =
    (is_so : Past → Bool) → is_so (without_tickets before) ≡ true →
    IsRun s s.worker is_so run before after

-- the job that was next was run; or nothing was done, and none was next
abbrev pub RunsNext : {T : Type 0} → Setting T → Events T → Events T → Option Ran → Type 0
RunsNext s before after None =
    Adds s [] before after × (next s.header.order (without_tickets after) ≡ None)
RunsNext s before after (Some ran) =
    (made : RecordId) × RunsFrom s (record { made = made; end = end_of ran }) before after

-- a job was taken up, and was not run to its end
abbrev pub GivesUp : {T : Type 0} → Setting T → Events T → Events T → Type 0
GivesUp s before after =
    (run : Run) × (is_installed run ≡ false) × RunsFrom s run before after

-- an input of the record
abbrev pub is_input : RecordId → Past → FileId → Bool
is_input made past f = reads_of_claim past f made

-- a run was given up for a damage of one of its inputs
abbrev pub RunDamaged : {T : Type 0} → Setting T → Events T → Events T → Damage → Type 0
RunDamaged s before after damage =
    (run : GivesUp s before after) × IsDamage s (is_input run.0.made) after damage

-- Why a run failed, and what it left: for a fault of the store or a damage of one of its inputs it
-- was given up; for want of memory perhaps before it was begun.
abbrev pub RunFails : {T : Type 0} → Setting T → Events T → Events T → WorkError → Type 0
RunFails s before after StoreFault = GivesUp s before after
RunFails s before after (Damaged damage) = RunDamaged s before after damage
RunFails {T} s before after NoMemory = (mine : Events T) × Adds s mine before after

-- no job is running
abbrev pub NothingRuns : {T : Type 0} → Events T → Type 0
NothingRuns events = (actor : Actor) → open_claim (without_tickets events) actor ≡ None

abbrev pub task_count : {T : Type 0} → Events T → ℕ
task_count events = length (chosen (tasks (without_tickets events)))

-- where nobody else uses the cluster, a run that was begun is never lost, and leaves fewer tasks;
-- and where none was next nothing came
abbrev pub LeavesFewer : {T : Type 0} → Events T → Events T → Option Ran → Type 0
LeavesFewer before after None = after ≡ before
LeavesFewer before after (Some ran.Installed) = task_count after < task_count before
LeavesFewer before after (Some ran.Lost) = ⊥

-- ---- a job that was taken up

-- The events right after a claim say this of the work that it handed out.
pub record IsTakenUp {T : Type 0} (s : Setting T) (work : Work T) (events : Events T) :
    Type 0 where
  pub for_actor : work.actor ≡ s.actor
  pub on_worker : work.worker ≡ s.worker
  pub losses : incarnation events work.worker ≡ work.incarnation
  pub claim : open_claim (without_tickets events) work.actor
      ≡ Some (record { worker = work.worker; made = work.rec })
  pub prio : ℕ
  pub inputs : List FileId
  pub outputs : ℕ
  pub job : record_at (without_tickets events) work.rec
      ≡ Some (kind.Job work.rec work.core prio inputs outputs)
  pub takes : work.core.program.inputs ≡ length inputs
  pub makes : work.core.program.outputs ≡ outputs
  pub feeds : length work.inputs.items ≡ length inputs
  pub loadable : All IsLoadableFeed work.inputs.items
  pub told : s.tells ≡ true → map (fed_outcome s.content) work.inputs.items
      ≡ map (value (events_with s.content events)) inputs
  pub damage : (damage : Damage) →
      IsDamageAmong s.tells s.content work.inputs.items damage →
      IsDamage s (is_input work.rec) events damage

-- the claim of the work was ended so
pub record EndsWork {T : Type 0} (s : Setting T) (work : Work T) (end : RunEnd)
    (before after : Events T) : Type 0 where
  pub ends : Adds s (ending s.actor s.worker work.rec end) before after
  pub closed : open_claim (without_tickets after) s.actor ≡ None

-- the claim of the work was given back, or lost
pub record GivesBackWork {T : Type 0} (s : Setting T) (work : Work T) (before after : Events T) :
    Type 0 where
  pub end : RunEnd
  pub failed : is_installed (record { made = work.rec; end = end }) ≡ false
  pub ended : EndsWork s work end before after

-- where nobody else uses the cluster, the work's Done came right after the claim, and then drops
abbrev pub DoneAlone : {T : Type 0} → Setting T → Work T → Events T → Events T → Ran → Type 0
DoneAlone s work before after ran.Installed =
    DropsFollow s.actor (event_by s.actor (Done s.worker work.rec) ∷ before) after
DoneAlone s work before after ran.Lost = ⊥
