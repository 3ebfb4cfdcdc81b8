-- Drops after events that carry tickets.
use Rattle.std.proofs.Common.{◌≡◌, List, [], ◌∷◌, refl, ap}
use Rattle.tl_types.specs.declared.actor.Actor.{Actor}
use Rattle.tl_types.specs.declared.file_id.FileId.{FileId}
use Rattle.tl_types.specs.declared.worker_id.WorkerId.{WorkerId}
use Rattle.tl_model.specs.declared.event.Act.TheVariants.{Drop}
use Rattle.tl_model.specs.declared.event.Event.{Event}
use Rattle.tl_model.specs.Past.{events_with, without_tickets}
use Rattle.tl_laws_drops.specs.Drops.{drops_by}
use Rattle.tl_laws_drops.specs.Drops.{with_drops}

pub drops-without-tickets : {T : Type 0} (actor : Actor) (ds : List (WorkerId × FileId)) (events : List (Event T)) →
    without_tickets (with_drops actor ds events) ≡ drops_by actor ds (without_tickets events)
drops-without-tickets actor [] events = refl
drops-without-tickets actor (d ∷ ds) events = ap (λ past. record { actor = actor; act = Drop d.0 d.1 } ∷ past) (drops-without-tickets actor ds events)

pub drops-with : {T U : Type 0} (f : T → U) (actor : Actor) (ds : List (WorkerId × FileId)) (events : List (Event T)) →
    events_with f (with_drops actor ds events) ≡ with_drops actor ds (events_with f events)
drops-with f actor [] events = refl
drops-with f actor (d ∷ ds) events = ap (λ later. record { actor = actor; act = Drop d.0 d.1 } ∷ later) (drops-with f actor ds events)
