-- The workers of a fleet, from worker 0: each with its incarnation and what is in its memory.
use Rattle.std.specs.Prelude.{ℕ, zero, suc, ◌+◌, ◌<◌, ◌≤◌, length, nat_lt, Bool, List, [], ◌∷◌, map, replicate, Option, Some, None, if◌then◌else◌}
use Rattle.std.specs.Borrow.{Bor}
use Rattle.std.specs.List.{list_any}
use Rattle.std.specs.Option.{option_map_or}
use Rattle.tl_types.specs.Block.{FileOutcome}
use Rattle.tl_types.specs.declared.file_id.FileId.{FileId}
use Rattle.tl_types.specs.declared.worker_id.WorkerId.{WorkerId}
use Rattle.tl_store.specs.Contents.{Blocks, contents, has, is_of, block_of, without, touched, used_by, victim}
use Rattle.tl_fleet.specs.declared.worker.Worker.{Worker}

abbrev pub Workers : Type 0
Workers = List Worker

abbrev pub new_worker : ℕ → Worker
new_worker capacity = record { store = contents capacity []; incarnation = 0 }

abbrev pub new_workers : ℕ → ℕ → Workers
new_workers count capacity = replicate count (new_worker capacity)

abbrev pub blocks_on : Worker → Blocks
blocks_on worker = worker.store.blocks

-- a worker whose blocks have changed
abbrev pub with_blocks : (Blocks → Blocks) → Worker → Worker
with_blocks change worker = record { store = contents worker.store.capacity (change worker.store.blocks); incarnation = worker.incarnation }

-- one worker has changed, and no other
abbrev pub changed_at : ℕ → (Worker → Worker) → Workers → Workers
changed_at n change [] = []
changed_at zero change (worker ∷ workers) = change worker ∷ workers
changed_at (suc n) change (worker ∷ workers) = worker ∷ changed_at n change workers

abbrev pub has_file : FileId → Worker → Bool
has_file f worker = has f worker.store.blocks

abbrev pub is_resident : FileId → Workers → Bool
is_resident f workers = list_any (has_file f) workers

-- the least worker, from number n, that has a file, with its block
abbrev pub found_from : ℕ → FileId → Workers → Option (WorkerId × FileOutcome)
found_from n f [] = None
found_from n f (worker ∷ workers) = option_map_or (λ block. Some (record { 0 = n }, block)) (block_of f worker.store.blocks) (found_from (n + 1) f workers)

abbrev pub found : FileId → Workers → Option (WorkerId × FileOutcome)
found f workers = found_from 0 f workers

-- what a reference to a block shows
abbrev pub found_block : WorkerId × Bor FileOutcome → WorkerId × FileOutcome
found_block found = (found.0, found.1.now)

abbrev pub worker_found : WorkerId × FileOutcome → WorkerId
worker_found found = found.0

abbrev pub incarnation_of : Worker → ℕ
incarnation_of worker = worker.incarnation

abbrev pub put_front : FileOutcome → Blocks → Blocks
put_front block blocks = block ∷ blocks

-- a block in front at a worker
abbrev pub installed : WorkerId → FileOutcome → Workers → Workers
installed w block workers = changed_at w.0 (with_blocks (put_front block)) workers

-- a file is the most recently used of its worker
abbrev pub all_touched : FileId → Workers → Workers
all_touched f workers = map (with_blocks (touched f)) workers

-- a file is on no worker
abbrev pub all_without : FileId → Workers → Workers
all_without f workers = map (with_blocks (without f)) workers

-- an empty worker of the next incarnation
abbrev pub emptied : Worker → Worker
emptied worker = record { store = contents worker.store.capacity []; incarnation = worker.incarnation + 1 }

abbrev pub lost : WorkerId → Workers → Workers
lost w workers = changed_at w.0 emptied workers

abbrev pub is_over : Worker → Bool
is_over worker = nat_lt worker.store.capacity (used_by worker.store.blocks)

-- the file that a worker must drop: its victim, where it is over its capacity
abbrev pub to_drop : (FileId → Bool) → Worker → Option FileId
to_drop excepted worker = if is_over worker then victim excepted worker.store.blocks else None

-- the least worker, from number n, that must drop a file, with the file
abbrev pub first_to_drop_from : ℕ → (FileId → Bool) → Workers → Option (WorkerId × FileId)
first_to_drop_from n excepted [] = None
first_to_drop_from n excepted (worker ∷ workers) = option_map_or (λ f. Some (record { 0 = n }, f)) (to_drop excepted worker) (first_to_drop_from (n + 1) excepted workers)

abbrev pub first_to_drop : (FileId → Bool) → Workers → Option (WorkerId × FileId)
first_to_drop excepted workers = first_to_drop_from 0 excepted workers

-- a worker has dropped a file
abbrev pub dropped : Option (WorkerId × FileId) → Workers → Workers
dropped None workers = workers
dropped (Some drop) workers = changed_at drop.0.0 (with_blocks (without drop.1)) workers

-- how many of these blocks are of a file
abbrev pub copies_in : FileId → Blocks → ℕ
copies_in f [] = 0
copies_in f (block ∷ blocks) = if is_of f block then 1 + copies_in f blocks else copies_in f blocks

-- how many blocks of a file are in the workers' memories together
abbrev pub copies : FileId → Workers → ℕ
copies f [] = 0
copies f (worker ∷ workers) = copies_in f worker.store.blocks + copies f workers

-- each file is in memory once at most
abbrev pub IsOnce : Workers → Type 0
IsOnce workers = (f : FileId) → copies f workers ≤ 1

-- what is true of every fleet: numbers of workers are bytes
pub record IsFleet (workers : Workers) : Type 0 where
  pub few : length workers < 256
  pub once : IsOnce workers

-- how many blocks are in the workers' memories together
abbrev pub held_count : Workers → ℕ
held_count [] = 0
held_count (worker ∷ workers) = length worker.store.blocks + held_count workers
