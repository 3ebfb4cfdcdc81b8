-- Whose lines they are, and what is known of the journal that they stand in.
use Rattle.std.specs.Prelude.{ℕ, Bool, List}
use Rattle.tl_types.specs.declared.actor.Actor.{Actor}
use Rattle.tl_types.specs.declared.worker_id.WorkerId.{WorkerId}
use Rattle.tl_model.specs.declared.event.Act.{Act}
use Rattle.tl_model.specs.declared.event.Event.{Event}
use Rattle.tl_model.specs.declared.header.Header.{Header}

pub record Setting (T : Type 0) : Type 0 where
  -- the actor has the journal to itself
  pub whole : Bool
  -- whether tickets tell the bytes that they are for, and which these are
  pub tells : Bool
  pub content : T → List ℕ
  pub header : Header
  pub actor : Actor
  -- where the actor's reads run what they need, and load what they read
  pub worker : WorkerId

-- the events of a journal, the newest first
abbrev pub Events : Type 0 → Type 0
Events T = List (Event T)

abbrev pub event_by : {T : Type 0} → Actor → Act T → Event T
event_by actor act = record { actor = actor; act = act }
