use Rattle.std.proofs.Common.{◌≡◌, length, reverse}
use Rattle.tl_eval.specs.Frames.{names_of}
use Rattle.tl_lang.specs.Names.{visible}
use Rattle.tl_eval.proofs.stack.find_in.Given as goal

abbrev pub invariant-loop-top : goal.invariant-loop-top
invariant-loop-top l = visible l.name (names_of (reverse l.left)) ≡ visible l.name (names_of (reverse l.frames))

abbrev pub decreases-loop-top : goal.decreases-loop-top
decreases-loop-top l = length l.left
