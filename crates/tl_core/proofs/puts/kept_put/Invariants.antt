use Rattle.std.proofs.Common.{◌≡◌, option_map, reverse, take}
use Rattle.tl_core.specs.Puts.{kept_put, seen}
use Rattle.tl_core.proofs.puts.kept_put.Given as goal

abbrev pub invariant-loop-event : goal.invariant-loop-event
invariant-loop-event g l = option_map seen l.kept ≡ kept_put (reverse (take l.event-index l.events)) l.file
