use Rattle.std.proofs.Common.{◌≡◌, take}
use Rattle.tl_cluster.specs.Jobs.{missing_of}
use Rattle.tl_cluster.proofs.parts.Parts.missing.Given as goal

abbrev pub invariant-loop-block : goal.invariant-loop-block
invariant-loop-block g l = l.missing.items ≡ missing_of l.self.workers (take l.block-index l.blocks)
