use Rattle.std.proofs.Common.{◌≡◌, [], false, All, vec_len}
use Rattle.tl_bench.proofs.crowd.seats_of.Given as goal

abbrev pub invariant-loop : goal.invariant-loop
invariant-loop l = record {
  table : l.root.turn ≡ l.turn;
  made : l.root.made ≡ l.counter;
  joined : l.root.joined ≡ [];
  many : vec_len l.seats ≡ l.counter;
  seats : All (λ seat. (seat.turn ≡ l.turn) × (seat.holds ≡ false)) l.seats.items;
}
