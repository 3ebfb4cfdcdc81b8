-- The blocks in the workers' memories, each with its worker.
use Rattle.std.specs.Prelude.{Bool, not, List, filter, Option, Some, None, is_some, option_map, if◌then◌else◌}
use Rattle.std.specs.List.{find}
use Rattle.tl_types.specs.Block.{FileOutcome}
use Rattle.tl_types.specs.Same.{file_same, worker_same}
use Rattle.tl_types.specs.declared.file_id.FileId.{FileId}
use Rattle.tl_types.specs.declared.worker_id.WorkerId.{WorkerId}
use Rattle.tl_core.specs.declared.resident.Resident.{Resident}

abbrev pub Residents : Type 0
Residents = List Resident

abbrev pub is_of : FileId → Resident → Bool
is_of f resident = file_same f resident.block.file

-- a file's block with its worker
abbrev pub found : FileId → Residents → Option Resident
found f residents = find (is_of f) residents

-- the worker where a file is
abbrev pub worker_of : Resident → WorkerId
worker_of resident = resident.worker

abbrev pub place_in : FileId → Residents → Option WorkerId
place_in f residents = option_map worker_of (found f residents)

-- the block that is held of a file: a finite map from the resident files
abbrev pub block_of : Resident → FileOutcome
block_of resident = resident.block

abbrev pub held : FileId → Residents → Option FileOutcome
held f residents = option_map block_of (found f residents)

-- it is not of the file
abbrev pub is_other : FileId → Resident → Bool
is_other f resident = not (file_same resident.block.file f)

-- it is not on the worker
abbrev pub is_elsewhere : WorkerId → Resident → Bool
is_elsewhere worker resident = not (worker_same worker resident.worker)

-- a file that is in a memory
abbrev pub file_held : Residents → Option FileId → Option FileId
file_held residents None = None
file_held residents (Some f) = if is_some (found f residents) then Some f else None

-- what is left where a file is taken away
abbrev pub without_file : Option FileId → Residents → Residents
without_file None residents = residents
without_file (Some f) residents = filter (is_other f) residents
