use Rattle.std.proofs.Common.{◌≡◌, ◌-◌, length}
use Rattle.std.specs.List.{list_all}
use Rattle.tl_names.specs.Moves.{child_fits}
use Rattle.tl_names.specs.Tables.{children_at, children_of}
use Rattle.tl_names.proofs.moves.+child_fits.Given as goal

abbrev pub decreases-child_fits : goal.decreases-child_fits
decreases-child_fits l = l.parts

abbrev pub invariant-loop-next : goal.invariant-loop-next
invariant-loop-next l =
    list_all (child_fits l.dirs.slots (l.parts - 1) (l.bytes - 1 - length l.name)) (children_of l.next-iterator)
    ≡ list_all (child_fits l.dirs.slots (l.parts - 1) (l.bytes - 1 - length l.name)) (children_at l.dirs.slots l.d)
