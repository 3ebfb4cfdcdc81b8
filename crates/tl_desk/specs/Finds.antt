-- What the holder of a desk has seen of the journal, and how a call finds it.
use Rattle.std.specs.Prelude.{◌≡◌, Bool, true, List, [], ◌++◌}
use Rattle.tl_types.specs.declared.actor.Actor.{Actor}
use Rattle.tl_model.specs.declared.event.Event.{Event}
use Rattle.tl_model.specs.declared.header.Header.{Header}
use Rattle.tl_laws.specs.Others.{AreOfOthers}
use Rattle.tl_laws_drops.specs.Drops.{DropsFollow}

-- the actor whose desk it is, and the cluster's header
pub record Post : Type 0 where
  pub actor : Actor
  pub header : Header

-- The holder had seen these events, and the journal was found so: on them came events of other
-- actors alone, and none where the holder sees the whole journal.
pub record Finds {T : Type 0} (whole : Bool) (actor : Actor) (seen found : List (Event T)) :
    Type 0 where
  pub others : List (Event T)
  pub came : found ≡ others ++ seen
  pub theirs : AreOfOthers actor others
  pub alone : whole ≡ true → others ≡ []

-- The journal was found so, and nothing was done.
pub record Stays {T : Type 0} (whole : Bool) (actor : Actor) (seen new : List (Event T))
    (is_so : List (Event T) → Type 0) : Type 0 where
  pub finds : Finds whole actor seen new
  pub so : is_so new

-- The journal was found so; then came the turn's events, and drops of the actor.
pub record Turns {T : Type 0} (whole : Bool) (actor : Actor) (seen new : List (Event T))
    (is_so : List (Event T) → Type 0) (main : List (Event T) → List (Event T)) : Type 0 where
  pub found : List (Event T)
  pub finds : Finds whole actor seen found
  pub so : is_so found
  pub turned : DropsFollow actor (main found) new

-- nothing is said of what was found
abbrev pub is_any : {T : Type 0} → List (Event T) → Type 0
is_any found = Unit {0}
