use Rattle.std.proofs.Common.{◌≡◌, length, map}
use Rattle.tl_model.specs.Past.{Past}
use Rattle.tl_model.specs.Plan.{is_task}
use Rattle.tl_gc.specs.declared.kept.Kept.{Kept}
use Rattle.tl_gc.proofs.Lists.{over_first}
use Rattle.tl_gc.proofs.needs.mark_tasks.Given as goal

abbrev pub invariant-loop-i : goal.invariant-loop-i
invariant-loop-i g l =
    ((past : Past) → g.F.Facts.speaks_of l.facts past → l.needed ≡ over_first l.i (map (λ (k : Kept). is_task past k.made) l.kept) l.initial.needed) × (length l.needed ≡ length l.kept)
