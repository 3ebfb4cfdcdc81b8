-- What an actor did of a journal, and what it added to one.
use Rattle.std.specs.Prelude.{◌≡◌, Bool, true, false, ◌&&◌, not, [], ◌∷◌, ◌++◌, filter}
use Rattle.std.specs.List.{list_all}
use Rattle.tl_types.specs.Same.{actor_same}
use Rattle.tl_types.specs.declared.actor.Actor.{Actor}
use Rattle.tl_types.specs.declared.file_id.FileId.{FileId}
use Rattle.tl_types.specs.declared.worker_id.WorkerId.{WorkerId}
use Rattle.tl_model.specs.declared.event.Act.{Act}
use Rattle.tl_model.specs.declared.event.Act.TheVariants.{Drop}
use Rattle.tl_model.specs.declared.event.Event.{Event}
use Rattle.tl_pieces.specs.Setting.{Setting, Events, event_by}

abbrev pub is_drop : {T : Type 0} → Act T → Bool
is_drop (Drop worker f) = true
is_drop _ = false

abbrev pub is_by : {T : Type 0} → Actor → Event T → Bool
is_by actor e = actor_same actor e.actor

-- an event of the actor, and no drop
abbrev pub is_own : {T : Type 0} → Actor → Event T → Bool
is_own actor e = is_by actor e && not (is_drop e.act)

-- the actor's events, drops left out
abbrev pub own : {T : Type 0} → Actor → Events T → Events T
own actor events = filter (is_own actor) events

-- a drop of the actor
abbrev pub drop_by : {T : Type 0} → Actor → WorkerId × FileId → Event T
drop_by actor drop = event_by actor (Drop drop.0 drop.1)

-- Events came after those before, of which these are the actor's own; where the actor has the
-- journal to itself, all that came are the actor's.
pub record Adds {T : Type 0} (s : Setting T) (mine before after : Events T) : Type 0 where
  pub more : Events T
  pub came : after ≡ more ++ before
  pub own : own s.actor more ≡ mine
  pub alone : s.whole ≡ true → list_all (is_by s.actor) more ≡ true

-- the actor did this right after these events, and nothing since
abbrev pub Does : {T : Type 0} → Setting T → Act T → Events T → Events T → Type 0
Does s act at after = Adds s [] (event_by s.actor act ∷ at) after
