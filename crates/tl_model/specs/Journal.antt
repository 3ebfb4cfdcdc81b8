-- A journal as its contracts see it.
use Rattle.std.specs.Prelude.{ℕ, List, length, reverse, Option, slice_get}
use Rattle.tl_model.specs.declared.header.Header.{Header}
use Rattle.tl_model.specs.declared.event.Act.{Act}
use Rattle.tl_model.specs.declared.event.Act.TheVariants.{Call}
use Rattle.tl_model.specs.declared.event.Event.{Event}
use Rattle.tl_model.specs.History.{calls_of}

-- the header, the events with the newest first, and how many more may be appended
pub record Ledger (T : Type 0) : Type 0 where
  pub header : Header
  pub events : List (Event T)
  pub spare : ℕ

-- the event at a place, counted from the first
abbrev pub event_at : {T : Type 0} → List (Event T) → ℕ → Option (Event T)
event_at events place = slice_get (reverse events) place

-- how many calls there are
abbrev pub call_count : {T : Type 0} → List (Event T) → ℕ
call_count events = length (calls_of events)

-- how many calls an act is
abbrev pub calls_in : {T : Type 0} → Act T → ℕ
calls_in (Call command reply) = 1
calls_in _ = 0
