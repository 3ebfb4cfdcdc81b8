-- Events of other actors.
use Rattle.std.specs.Prelude.{◌≡◌, Bool, false, List}
use Rattle.std.specs.List.{AllByRecursion}
use Rattle.tl_types.specs.Same.{actor_same, worker_same}
use Rattle.tl_types.specs.declared.actor.Actor.{Actor}
use Rattle.tl_types.specs.declared.worker_id.WorkerId.{WorkerId}
use Rattle.tl_model.specs.declared.event.Act.{Act}
use Rattle.tl_model.specs.declared.event.Act.TheVariants.{Lose}
use Rattle.tl_model.specs.declared.event.Event.{Event}

-- none of the events is the actor's
abbrev pub AreOfOthers : {T : Type 0} → Actor → List (Event T) → Type 0
AreOfOthers actor events = AllByRecursion (λ e. actor_same actor e.actor ≡ false) events

abbrev pub loses : {T : Type 0} → WorkerId → Act T → Bool
loses worker (Lose other) = worker_same other worker
loses worker _ = false

-- none of the events loses the worker
abbrev pub LoseNot : {T : Type 0} → WorkerId → List (Event T) → Type 0
LoseNot worker events = AllByRecursion (λ e. loses worker e.act ≡ false) events
