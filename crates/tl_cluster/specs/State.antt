-- A cluster as its contracts see it.
use Rattle.std.specs.Prelude.{ℕ, List, Option, option_map}
use Rattle.tl_types.specs.Block.{FileOutcome}
use Rattle.tl_types.specs.declared.file_id.FileId.{FileId}
use Rattle.tl_types.specs.declared.worker_id.WorkerId.{WorkerId}
use Rattle.tl_model.specs.declared.event.Event.{Event}
use Rattle.tl_model.specs.declared.header.Header.{Header}
use Rattle.tl_model.specs.Past.{Past, Told, events_with, without_tickets}
use Rattle.tl_fleet.specs.Workers.{Workers, found}

-- the header, the events with the newest first, and what is in the workers' memories
pub record State (T : Type 0) : Type 0 where
  pub header : Header
  pub events : List (Event T)
  pub workers : Workers

abbrev pub past_of : {T : Type 0} → State T → Past
past_of state = without_tickets state.events

-- the events, with the bytes that their tickets tell
abbrev pub told_of : {T : Type 0} → (T → List ℕ) → State T → Told
told_of content state = events_with content state.events

abbrev pub block_found : WorkerId × FileOutcome → FileOutcome
block_found found = found.1

-- the block that is held of a file: a finite map from the resident files
abbrev pub held : FileId → Workers → Option FileOutcome
held f workers = option_map block_found (found f workers)
