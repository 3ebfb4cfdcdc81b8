use Rattle.std.proofs.Common.{◌≡◌, ◌≤◌}
use Rattle.tl_store.specs.Contents.{contents}
use Rattle.tl_bench.specs.Blocks.{renewed_by}
use Rattle.tl_bench.proofs.blocks.renew_often.Given as goal

abbrev pub invariant-loop : goal.invariant-loop
invariant-loop l = record {
  most : l.puts ≤ l.counter;
  all : l.puts ≡ l.counter → l.store ≡ contents l.fn.store.capacity (renewed_by l.counter l.fn.store.blocks);
}
