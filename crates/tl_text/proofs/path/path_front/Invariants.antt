use Rattle.tl_types.specs.Parts.{lists_of}
use Rattle.tl_text.proofs.Paths.{IsInPath}
use Rattle.tl_text.proofs.path.path_front.Given as goal

abbrev pub invariant-loop-place : goal.invariant-loop-place
invariant-loop-place l = IsInPath (lists_of l.parts.items) l.start l.place l.text
