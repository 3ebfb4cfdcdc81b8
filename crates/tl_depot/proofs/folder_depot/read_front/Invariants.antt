use Rattle.std.proofs.Common.{vec_len, ◌≤◌, ◌-◌}
use Rattle.tl_depot.proofs.folder_depot.read_front.Given as goal

abbrev pub invariant-pieces : goal.invariant-pieces
invariant-pieces g l = vec_len l.bytes ≤ l.limit

abbrev pub decreases-pieces : goal.decreases-pieces
decreases-pieces g l = l.limit - vec_len l.bytes
