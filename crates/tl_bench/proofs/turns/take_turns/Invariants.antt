use Rattle.std.proofs.Common.{◌≡◌, false}
use Rattle.tl_bench.proofs.turns.take_turns.Given as goal

abbrev pub invariant-loop-value : goal.invariant-loop-value
invariant-loop-value g l = (l.seat.turn ≡ l.turn) × (l.seat.holds ≡ false)
