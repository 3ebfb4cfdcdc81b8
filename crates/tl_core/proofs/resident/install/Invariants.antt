use Rattle.std.proofs.Common.{◌≡◌, ◌+◌, ◌≤◌, reverse, vec_len, vec_capacity}
use Rattle.tl_core.specs.Brought.{with_blocks}
use Rattle.tl_core.proofs.resident.install.Given as goal

abbrev pub invariant-loop-block : goal.invariant-loop-block
invariant-loop-block l = record {
  left : with_blocks l.worker (reverse l.rest.items) l.residents.items ≡ with_blocks l.worker l.fn.blocks.items l.fn.residents.items;
  room : vec_len l.residents + vec_len l.rest ≤ vec_capacity l.residents;
}

abbrev pub decreases-loop-block : goal.decreases-loop-block
decreases-loop-block l = vec_len l.rest
