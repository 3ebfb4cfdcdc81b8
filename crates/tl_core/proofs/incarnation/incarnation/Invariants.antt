use Rattle.std.proofs.Common.{◌≡◌, ◌≤◌, reverse, take}
use Rattle.tl_core.specs.Claims.{incarnation}
use Rattle.tl_core.proofs.incarnation.incarnation.Given as goal

abbrev pub invariant-loop-event : goal.invariant-loop-event
invariant-loop-event g l = record { value : l.count ≡ incarnation (reverse (take l.event-index l.events)) l.worker; bound : l.count ≤ l.event-index }
