-- When a client can be asked.
use Rattle.std.specs.Prelude.{◌≡◌, ◌<◌, Bool, true, List}
use Rattle.tl_types.specs.declared.worker_id.WorkerId.{WorkerId}
use Rattle.tl_model.specs.declared.event.Event.{Event}
use Rattle.tl_model.specs.Actors.{is_idle}
use Rattle.tl_model.specs.Past.{without_tickets}
use Rattle.tl_desk.specs.Finds.{Post}
use Rattle.tl_work.specs.Runs.{NothingRuns}

-- The actor is a client that has nothing open; where its desk's holder sees the whole journal, no
-- job is running.
pub record IsReady {T : Type 0} (whole : Bool) (post : Post) (worker : WorkerId)
    (seen : List (Event T)) : Type 0 where
  pub client : post.actor.0 < 8
  pub worker_is : worker.0 < post.header.workers
  pub idle : is_idle (without_tickets seen) post.actor ≡ true
  pub alone : whole ≡ true → NothingRuns seen
