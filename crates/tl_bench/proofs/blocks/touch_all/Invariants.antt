use Rattle.std.proofs.Common.{◌≡◌, take, reverse}
use Rattle.tl_store.specs.Contents.{contents}
use Rattle.tl_bench.specs.Blocks.{touched_by}
use Rattle.tl_bench.proofs.blocks.touch_all.Given as goal

abbrev pub invariant-loop-file : goal.invariant-loop-file
invariant-loop-file l = l.store ≡ contents l.fn.store.capacity (touched_by (reverse (take l.file-index l.files)) l.fn.store.blocks)
