-- Several blocks come to one worker, and leave it again.
use Rattle.std.specs.Prelude.{◌≡◌, false, [], ◌∷◌}
use Rattle.std.specs.List.{AllByRecursion}
use Rattle.tl_types.specs.declared.worker_id.WorkerId.{WorkerId}
use Rattle.tl_store.specs.Contents.{Blocks, without}
use Rattle.tl_fleet.specs.Workers.{Workers, is_resident, changed_at, with_blocks}

-- no block's file is on any worker
abbrev pub AreAbsent : Blocks → Workers → Type 0
AreAbsent blocks workers = AllByRecursion (λ block. is_resident block.file workers ≡ false) blocks

-- the blocks' files have left a worker, the last of them first
abbrev pub removed_each : WorkerId → Blocks → Workers → Workers
removed_each w [] workers = workers
removed_each w (block ∷ blocks) workers = changed_at w.0 (with_blocks (without block.file)) (removed_each w blocks workers)
