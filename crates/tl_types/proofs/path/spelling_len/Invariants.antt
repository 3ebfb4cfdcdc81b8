use Rattle.std.proofs.Common.{◌≡◌, ◌≤◌, ◌*◌, take}
use Rattle.tl_types.proofs.Spelling.{spelled_len}
use Rattle.tl_types.proofs.path.spelling_len.Given as goal

abbrev pub invariant-loop-part : goal.invariant-loop-part
invariant-loop-part l = record {
  spelled : l.len ≡ spelled_len (take l.part-index l.parts);
  bounded : l.len ≤ 256 * l.part-index;
}
