use Rattle.std.proofs.Common.{◌≡◌, length}
use Rattle.tl_reading.proofs.Progress.{HasRead}
use Rattle.tl_reading.proofs.journal.events_before.Given as goal

abbrev pub invariant-events : goal.invariant-events
invariant-events l = (l.journal.header ≡ l.fn.header) × HasRead l.fn.header l.text l.journal.events l.rest

abbrev pub decreases-events : goal.decreases-events
decreases-events l = length l.rest
