use Rattle.std.proofs.Common.{◌≡◌}
use Rattle.tl_model.specs.Past.{event_with}
use Rattle.tl_steps.specs.Steps.{seat_after}
use Rattle.tl_steps.proofs.Lists.{changed_first}
use Rattle.tl_steps.proofs.seat.note_seats.Given as goal

abbrev pub invariant-loop-seat : goal.invariant-loop-seat
invariant-loop-seat g l = l.seats ≡ changed_first l.seat-index (seat_after (event_with (λ _. tt) l.event)) l.initial.seats
