-- The seats of actors that share a cluster.
use Rattle.std.specs.Prelude.{ℕ}
use Rattle.tl_types.specs.declared.actor.Actor.{Actor}
use Rattle.tl_model.specs.declared.event.Event.{Event}
use Rattle.tl_model.specs.declared.header.Header.{Header}
use Rattle.tl_desk.specs.Finds.{Post}
use Rattle.tl_turn.specs.Views.{TurnId}

-- the number of the seat that made an event: its actor's
abbrev pub number_of : {T : Type 0} → Event T → ℕ
number_of event = event.actor.0

-- at which lock a seat is, and its number
pub record Place : Type 0 where
  pub turn : TurnId
  pub number : ℕ

-- the place of an actor's seat
abbrev pub place_at : TurnId → Actor → Place
place_at turn actor = record { turn = turn; number = actor.0 }

-- the post of the actor at a place, where the cluster has this header
abbrev pub post_at : Header → Place → Post
post_at header place = record { actor = record { 0 = place.number }; header = header }
