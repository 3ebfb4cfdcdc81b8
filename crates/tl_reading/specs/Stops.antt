-- Why a reader hands out nothing.
use Rattle.tl_reading.specs.declared.stop.Stop.{Stop}
use Rattle.tl_reading.specs.declared.stop.Stop.TheVariants.{Unread, NoMemory}

-- the reader stops for this, unless memory ran out
abbrev pub StopsFor : Type 0 → Stop → Type 0
StopsFor reason Unread = reason
StopsFor reason NoMemory = Unit {0}
