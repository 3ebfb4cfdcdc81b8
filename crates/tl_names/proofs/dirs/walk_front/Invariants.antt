use Rattle.std.proofs.Common.{◌≡◌, take, drop}
use Rattle.tl_names.specs.Tables.{place, walk_from}
use Rattle.tl_names.proofs.dirs.walk_front.Given as goal

abbrev pub invariant-loop-i : goal.invariant-loop-i
invariant-loop-i l = walk_from l.dirs.slots (drop l.i (take l.len l.path)) l.child ≡ place l.dirs.slots (take l.len l.path)
