use Rattle.std.proofs.Common.{◌-◌, length}
use Rattle.tl_text.proofs.Quotes.{IsOpen}
use Rattle.tl_text.proofs.quoted.quoted_front.Given as goal

abbrev pub invariant-loop-place : goal.invariant-loop-place
invariant-loop-place l = IsOpen l.bytes.items l.place l.text

abbrev pub decreases-loop-place : goal.decreases-loop-place
decreases-loop-place l = length l.text - l.place
