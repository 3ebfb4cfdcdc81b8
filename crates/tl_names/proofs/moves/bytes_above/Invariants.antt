use Rattle.std.proofs.Common.{◌≡◌, take}
use Rattle.tl_names.specs.Moves.{bytes_of}
use Rattle.tl_names.proofs.moves.bytes_above.Given as goal

abbrev pub invariant-loop-i : goal.invariant-loop-i
invariant-loop-i l = l.bytes ≡ bytes_of (take l.i l.path)
