use Rattle.std.proofs.Common.{◌≡◌, ◌++◌, ◌==◌, length}
use Rattle.std.specs.List.{slice_split}
use Rattle.tl_eval.proofs.split.front_pieces.Given as goal

abbrev pub invariant-loop-piece : goal.invariant-loop-piece
invariant-loop-piece l = slice_split (λ c. c == l.byte) l.text ≡ l.pieces ++ slice_split (λ c. c == l.byte) l.rest

abbrev pub decreases-loop-piece : goal.decreases-loop-piece
decreases-loop-piece l = length l.rest
