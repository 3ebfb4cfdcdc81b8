use Rattle.std.proofs.Common.{◌≡◌, ◌*◌, ◌≤◌, length, take}
use Rattle.std.specs.Prelude.{sum_by}
use Rattle.tl_eval.proofs.gathered.is_within.Given as goal

abbrev pub invariant-loop-text : goal.invariant-loop-text
invariant-loop-text l = record {
  sum : l.bytes ≡ sum_by length (take l.text-index l.texts);
  bound : l.bytes ≤ 1048576 * l.text-index;
}
