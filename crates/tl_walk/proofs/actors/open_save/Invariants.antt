use Rattle.std.proofs.Common.{◌≡◌, take, reverse}
use Rattle.tl_model.specs.Past.{without_tickets}
use Rattle.tl_model.specs.Actors.{open_save}
use Rattle.tl_walk.proofs.actors.open_save.Given as goal

abbrev pub invariant-loop-event : goal.invariant-loop-event
invariant-loop-event g l = l.open ≡ open_save (without_tickets (reverse (take l.event-index l.events))) l.actor
