-- A turn: a main event with what follows it, and the drops that settle the workers' memories.
use Rattle.std.specs.Prelude.{◌≡◌, ◌≤◌, ◌+◌, ◌-◌, ℕ, Bool, true, not, List, ◌∷◌, Option, Some, None, if◌then◌else◌}
use Rattle.tl_types.specs.Block.{FileOutcome}
use Rattle.tl_types.specs.declared.actor.Actor.{Actor}
use Rattle.tl_types.specs.declared.file_id.FileId.{FileId}
use Rattle.tl_types.specs.declared.worker_id.WorkerId.{WorkerId}
use Rattle.tl_model.specs.declared.event.Act.TheVariants.{Drop}
use Rattle.tl_model.specs.declared.event.Event.{Event}
use Rattle.tl_model.specs.Eviction.{may_go}
use Rattle.tl_model.specs.Past.{without_tickets}
use Rattle.tl_model.specs.Rules.{can_drop}
use Rattle.tl_fleet.specs.Workers.{dropped, held_count}
use Rattle.tl_laws_drops.specs.Drops.{is_among, with_drops}
use Rattle.tl_cluster.specs.Stands.{Agrees, PartsState}
use Rattle.tl_cluster.specs.State.{State, held}

-- After a turn of the actor the events are these, the main event's and its followers', and then
-- drops of the actor. A dropped file is held no more, and of each other file this is.
pub record Turned {T : Type 0} (actor : Actor) (old : State T) (main : List (Event T))
    (blocks : FileId → Option FileOutcome) (new : State T) : Type 0 where
  pub drops : List (WorkerId × FileId)
  pub header : new.header ≡ old.header
  pub events : new.events ≡ with_drops actor drops main
  pub held : (f : FileId) →
      held f new.workers ≡ (if is_among f drops then None else blocks f)

-- what is held before the turn
abbrev pub as_held : {T : Type 0} → State T → FileId → Option FileOutcome
as_held state f = held f state.workers

-- Drops of the actor settled the parts: a dropped file is held no more, and all else is as before.
-- They took no more room than was kept for dropping what was held.
pub record Settled {T : Type 0} (actor : Actor) (old new : PartsState T) : Type 0 where
  pub drops : List (WorkerId × FileId)
  pub header : new.header ≡ old.header
  pub events : new.events ≡ with_drops actor drops old.events
  pub vault : new.vault ≡ old.vault
  pub held : (f : FileId) →
      held f new.workers ≡ (if is_among f drops then None else held f old.workers)
  pub room : old.spare + held_count new.workers ≤ new.spare + held_count old.workers

-- pinned or wanted
abbrev pub is_protected : {T : Type 0} → List (Event T) → FileId → Bool
is_protected events f = not (may_go (without_tickets events) f)

-- the parts after a drop
abbrev pub with_drop : {T : Type 0} → Actor → WorkerId × FileId → PartsState T → PartsState T
with_drop actor drop parts = record parts {
  events = record { actor = actor; act = Drop drop.0 drop.1 } ∷ parts.events;
  spare = parts.spare - 1;
  workers = dropped (Some drop) parts.workers;
}

-- a file that may go was dropped
pub record IsDrop {T : Type 0} (tells : Bool) (content : T → List ℕ) (actor : Actor)
    (old new : PartsState T) : Type 0 where
  pub drop : WorkerId × FileId
  pub is : new ≡ with_drop actor drop old
  pub can : can_drop (without_tickets old.events) drop.0 drop.1 ≡ true
  pub fewer : held_count new.workers + 1 ≡ held_count old.workers
  pub agrees : Agrees tells content new
