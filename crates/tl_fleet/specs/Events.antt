-- A past and one more event that concerns memory, and what mirrors the events that concern several files.
use Rattle.std.specs.Prelude.{Bool, true, false, List, [], ◌∷◌, map}
use Rattle.std.specs.List.{list_any}
use Rattle.tl_types.specs.Block.{FileOutcome}
use Rattle.tl_types.specs.Same.{file_same}
use Rattle.tl_types.specs.declared.actor.Actor.{Actor}
use Rattle.tl_types.specs.declared.digest.Digest.{Digest}
use Rattle.tl_types.specs.declared.file_id.FileId.{FileId}
use Rattle.tl_types.specs.declared.record_id.RecordId.{RecordId}
use Rattle.tl_types.specs.declared.worker_id.WorkerId.{WorkerId}
use Rattle.tl_model.specs.declared.event.Act.{Act}
use Rattle.tl_model.specs.declared.event.Act.TheVariants.{Served, Claim, Done, Lose, Free, Drop, Load}
use Rattle.tl_model.specs.Past.{Past}
use Rattle.tl_store.specs.Contents.{Blocks}
use Rattle.tl_fleet.specs.Workers.{Workers, installed, all_touched}

abbrev pub after_load : Actor → WorkerId → FileId → Past → Past
after_load actor w f past = record { actor = actor; act = Load w f } ∷ past

abbrev pub after_done : Actor → WorkerId → RecordId → Past → Past
after_done actor w made past = record { actor = actor; act = Done w made } ∷ past

abbrev pub after_served : Actor → FileId → Digest → Past → Past
after_served actor f digest past = record { actor = actor; act = Served f digest } ∷ past

abbrev pub after_claim : Actor → WorkerId → RecordId → Past → Past
after_claim actor w made past = record { actor = actor; act = Claim w made } ∷ past

abbrev pub after_free : Actor → FileId → Past → Past
after_free actor f past = record { actor = actor; act = Free f } ∷ past

abbrev pub after_drop : Actor → WorkerId × FileId → Past → Past
after_drop actor drop past = record { actor = actor; act = Drop drop.0 drop.1 } ∷ past

abbrev pub after_loss : Actor → WorkerId → Past → Past
after_loss actor w past = record { actor = actor; act = Lose w } ∷ past

-- whether a file is one of these
abbrev pub among : FileId → List FileId → Bool
among f fs = list_any (file_same f) fs

abbrev pub file_of : FileOutcome → FileId
file_of block = block.file

abbrev pub files_of : Blocks → List FileId
files_of blocks = map file_of blocks

-- blocks in front at a worker, the first of them first, so that the last of them is in front
abbrev pub installed_each : WorkerId → Blocks → Workers → Workers
installed_each w [] workers = workers
installed_each w (block ∷ blocks) workers = installed_each w blocks (installed w block workers)

-- files are used, the first of them first, so that the last of them is the most recently used
abbrev pub touched_each : List FileId → Workers → Workers
touched_each [] workers = workers
touched_each (f ∷ fs) workers = touched_each fs (all_touched f workers)

-- an event that brings, uses or takes away a file in memory
abbrev pub concerns_memory : Act (Unit {0}) → Bool
concerns_memory (Served f digest) = true
concerns_memory (Claim w made) = true
concerns_memory (Done w made) = true
concerns_memory (Lose w) = true
concerns_memory (Free f) = true
concerns_memory (Drop w f) = true
concerns_memory (Load w f) = true
concerns_memory _ = false
