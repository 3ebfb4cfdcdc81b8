use Rattle.std.proofs.Common.{rules, ◌∙◌, ap, slice_set}
use Rattle.tl_model.specs.Past.{event_with}
use Rattle.tl_steps.specs.Steps.{seat_after}
use Rattle.tl_steps.proofs.Lists.{changed_all, changed_first, changed_next}
use Rattle.tl_steps.proofs.seat.note_seats.Goals as goal

pub loop-seat-preserved : goal.loop-seat-preserved
loop-seat-preserved g c =
    ap (λ x. slice_set c.loop-seat.seats c.loop-seat.seat-index x) c.seat_after.ensures
    ∙ changed_next c.args.seats.now c.loop-seat.seats c.loop-seat.seat-index _ (seat_after (event_with (λ _. tt) c.args.event.now)) c.loop-seat.invariant (search rules)

pub returns : goal.returns
returns g c =
    c.loop-seat.invariant
    ∙ ap (λ k. changed_first k (seat_after (event_with (λ _. tt) c.args.event.now)) c.args.seats.now) (search rules)
    ∙ changed_all c.args.seats.now (seat_after (event_with (λ _. tt) c.args.event.now))
