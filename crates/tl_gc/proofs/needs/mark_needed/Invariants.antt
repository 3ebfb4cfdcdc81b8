use Rattle.std.proofs.Common.{◌≡◌, length}
use Rattle.tl_gc.specs.Data.{walked}
use Rattle.tl_gc.proofs.needs.mark_needed.Given as goal

abbrev pub invariant-loop-i : goal.invariant-loop-i
invariant-loop-i l = (walked l.seats l.kept l.i l.needed ≡ walked l.seats l.kept (length l.kept) l.initial.needed) × (length l.needed ≡ length l.kept)
