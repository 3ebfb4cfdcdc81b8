use Rattle.std.proofs.Common.{◌≡◌, ◌+◌, ◌++◌, ◌≤◌, reverse, vec_len}
use Rattle.tl_work.specs.Made.{blocks_from}
use Rattle.tl_work.proofs.evaluate.blocks_of.Given as goal

abbrev pub invariant-outcomes : goal.invariant-outcomes
invariant-outcomes l = record {
  left : l.blocks.items ++ blocks_from l.rec l.out (reverse l.rest.items) ≡ blocks_from l.rec 0 l.fn.outcomes.items;
  room : l.out + vec_len l.rest ≤ 255;
}

abbrev pub decreases-outcomes : goal.decreases-outcomes
decreases-outcomes l = vec_len l.rest
