use Rattle.std.proofs.Common.{◌≡◌, map, length}
use Rattle.tl_reading.specs.Acts.{found_in}
use Rattle.tl_reading.proofs.table.find.Given as goal

abbrev pub invariant-loop-table : goal.invariant-loop-table
invariant-loop-table g l = found_in (map (λ entry. (entry.0.now, entry.1)) l.table) l.word ≡ found_in (map (λ entry. (entry.0.now, entry.1)) l.fn.table) l.word

abbrev pub decreases-loop-table : goal.decreases-loop-table
decreases-loop-table g l = length l.table
