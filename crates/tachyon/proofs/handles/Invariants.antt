use Rattle.std.proofs.Common.{◌≡◌, vec_len}
use Rattle.tachyon.proofs.handles.Given as goal

abbrev pub invariant-loop : goal.invariant-loop
invariant-loop l = vec_len l.depots ≡ l.counter
