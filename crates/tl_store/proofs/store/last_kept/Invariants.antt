use Rattle.std.proofs.Common.{◌≡◌, length}
use Rattle.std.specs.Map.{values_of}
use Rattle.tl_store.specs.Contents.{victim}
use Rattle.tl_store.specs.Kept.{EachKept}
use Rattle.tl_store.proofs.store.last_kept.Given as goal

abbrev pub invariant-loop-file : goal.invariant-loop-file
invariant-loop-file g l = record {
  each : EachKept l.left;
  same : victim (g.X.Excepted.excepted l.x) (values_of l.left) ≡ victim (g.X.Excepted.excepted l.x) (values_of l.entries.entries);
}

abbrev pub decreases-loop-file : goal.decreases-loop-file
decreases-loop-file g l = length l.left
