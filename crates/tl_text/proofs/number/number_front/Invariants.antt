use Rattle.tl_text.proofs.Numbers.{IsFront}
use Rattle.tl_text.proofs.number.number_front.Given as goal

abbrev pub invariant-loop-place : goal.invariant-loop-place
invariant-loop-place l = IsFront l.limit l.number l.place l.text
