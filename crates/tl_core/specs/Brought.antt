-- Blocks that are brought to a worker.
use Rattle.std.specs.Prelude.{List, [], ◌∷◌, ◌++◌, is_some, if◌then◌else◌}
use Rattle.tl_types.specs.Block.{FileOutcome}
use Rattle.tl_types.specs.declared.worker_id.WorkerId.{WorkerId}
use Rattle.tl_core.specs.Residents.{Residents, found}

-- one block more on the worker, unless its file is in some memory
abbrev pub with_block : WorkerId → FileOutcome → Residents → Residents
with_block worker block residents =
    if is_some (found block.file residents) then residents else residents ++ record { worker = worker; block = block } ∷ []

-- the blocks, one after another
abbrev pub with_blocks : WorkerId → List FileOutcome → Residents → Residents
with_blocks worker [] residents = residents
with_blocks worker (block ∷ blocks) residents = with_blocks worker blocks (with_block worker block residents)
