-- A job that is taken up, with what stands for its inputs.
use Rattle.std.specs.Prelude.{◌≡◌, ℕ, Bool, List, length, Option, Some, None}
use Rattle.tl_types.specs.declared.actor.Actor.{Actor}
use Rattle.tl_types.specs.declared.worker_id.WorkerId.{WorkerId}
use Rattle.tl_model.specs.Past.{without_tickets}
use Rattle.tl_model.specs.Plan.{next}
use Rattle.tl_cluster.specs.declared.feeds.Taken.{Taken}
use Rattle.tl_cluster.specs.Jobs.{AreInputs, state_of}
use Rattle.tl_cluster.specs.Losses.{incarnation}
use Rattle.tl_cluster.specs.Stands.{PartsState}
use Rattle.tl_cluster.specs.Works.{IsJobOf}

-- the work that the record that is next is for the actor on the worker, and the record's inputs
pub record IsTaken {T : Type 0} (tells : Bool) (content : T → List ℕ) (parts : PartsState T)
    (actor : Actor) (worker : WorkerId) (taken : Taken T) : Type 0 where
  pub is_next : next parts.header.order (without_tickets parts.events) ≡ Some taken.work.rec
  pub for_actor : taken.work.actor ≡ actor
  pub on_worker : taken.work.worker ≡ worker
  pub losses : taken.work.incarnation ≡ incarnation parts.events worker
  pub at_place : taken.work.place ≡ length parts.events
  pub job : IsJobOf tells content (state_of parts) taken.work
  pub inputs : AreInputs (without_tickets parts.events) taken.work.rec taken.files.items

-- the next job, or none where none is next
abbrev pub TakesUp : {T : Type 0} → Bool → (T → List ℕ) → PartsState T → Actor → WorkerId →
    Option (Taken T) → Type 0
TakesUp tells content parts actor worker None =
    next parts.header.order (without_tickets parts.events) ≡ None
TakesUp tells content parts actor worker (Some taken) =
    IsTaken tells content parts actor worker taken
