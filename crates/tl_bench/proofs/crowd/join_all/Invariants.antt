use Rattle.std.proofs.Common.{◌≡◌, ◌+◌, false, length, All, vec_len}
use Rattle.tl_bench.proofs.crowd.join_all.Given as goal

abbrev pub invariant-loop-seat : goal.invariant-loop-seat
invariant-loop-seat l = record {
  table : l.root.turn ≡ l.turn;
  made : l.root.made ≡ l.fn.root.made;
  many : length l.root.joined + vec_len l.seats ≡ length l.fn.root.joined + vec_len l.fn.seats;
  seats : All (λ seat. (seat.turn ≡ l.turn) × (seat.holds ≡ false)) l.seats.items;
}

abbrev pub decreases-loop-seat : goal.decreases-loop-seat
decreases-loop-seat l = vec_len l.seats
