use Rattle.std.proofs.Common.{◌≡◌, take, reverse}
use Rattle.tl_model.specs.Past.{without_tickets}
use Rattle.tl_model.specs.Residency.{saved_as}
use Rattle.tl_walk.proofs.residency.saved_as.Given as goal

abbrev pub invariant-loop-event : goal.invariant-loop-event
invariant-loop-event g l = l.saved ≡ saved_as (without_tickets (reverse (take l.event-index l.events))) l.file
