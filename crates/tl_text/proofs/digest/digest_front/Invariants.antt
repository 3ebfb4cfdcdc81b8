use Rattle.std.proofs.Common.{◌≤◌, length}
use Rattle.tl_text.proofs.Digests.{DigitsBelow}
use Rattle.tl_text.proofs.digest.digest_front.Given as goal

abbrev pub invariant-loop-place : goal.invariant-loop-place
invariant-loop-place l = record {
  within : l.place ≤ length l.text;
  digits : DigitsBelow l.place l.text;
}
