-- How what is in the workers' memory goes with a past: which blocks are where, and in which order.
use Rattle.std.specs.Prelude.{◌≡◌, ⊤, ℕ, ◌+◌, ◌<◌, ◌⊎◌, Bool, true, not, List, [], ◌∷◌, length, slice_get, Option, Some, None, option_map}
use Rattle.std.specs.List.{AllByRecursion}
use Rattle.std.specs.declared.cmp.Ordering.TheVariants.{Less}
use Rattle.tl_types.specs.Block.{FileOutcome}
use Rattle.tl_types.specs.Same.{file_cmp}
use Rattle.tl_types.specs.declared.file_id.FileId.{FileId}
use Rattle.tl_types.specs.declared.worker_id.WorkerId.{WorkerId}
use Rattle.tl_model.specs.declared.header.Header.{Header}
use Rattle.tl_model.specs.declared.record.Record.{Record}
use Rattle.tl_model.specs.Past.{Past}
use Rattle.tl_model.specs.History.{records, record_at, id_of, has_output}
use Rattle.tl_model.specs.Residency.{place, recency, is_at}
use Rattle.tl_model.specs.Eviction.{Sizes, may_go, victim, first_to_drop}
use Rattle.tl_store.specs.Contents.{Blocks, block_size, has}
use Rattle.tl_fleet.specs.Workers.{Workers}

-- the file is an output of an accepted record
abbrev pub is_made : Past → FileId → Bool
is_made past f = has_output (record_at past f.rec) f.out

-- what a past tells of files: where each is, when it was last used, and whether a record makes it
pub record Sight : Type 0 where
  pub place : FileId → Option WorkerId
  pub recency : FileId → ℕ
  pub is_made : FileId → Bool

abbrev pub sight_of : Past → Sight
sight_of past = record { place = place past; recency = recency past; is_made = is_made past }

-- g is evicted sooner than f: it is less recently used, or as recently and the lesser file
abbrev pub IsSooner : (FileId → ℕ) → FileId → FileId → Type 0
IsSooner recency g f = (recency g < recency f) ⊎ ((recency g ≡ recency f) × (file_cmp g f ≡ Less))

-- each file is less than those after it
abbrev pub Ascends : List FileId → Type 0
Ascends [] = ⊤
Ascends (f ∷ fs) = AllByRecursion (λ g. file_cmp f g ≡ Less) fs × Ascends fs

-- each block is evicted sooner than those before it
abbrev pub InOrder : (FileId → ℕ) → Blocks → Type 0
InOrder recency [] = ⊤
InOrder recency (block ∷ blocks) = AllByRecursion (λ later. IsSooner recency later.file block.file) blocks × InOrder recency blocks

-- a block is as long as its file, which a record makes
abbrev pub IsOfFile : Sizes → Sight → FileOutcome → Type 0
IsOfFile sizes sight block = (block_size block ≡ sizes block.file) × (sight.is_made block.file ≡ true)

-- the blocks of the worker of number n: those of the files that are there, in order
pub record StandsAt (sizes : Sizes) (sight : Sight) (n : ℕ) (blocks : Blocks) : Type 0 where
  pub resident : (f : FileId) → has f blocks ≡ is_at (record { 0 = n }) (sight.place f)
  pub order : InOrder sight.recency blocks
  pub files : AllByRecursion (IsOfFile sizes sight) blocks

-- the workers from number n on, each with the header's capacity
abbrev pub EachStands : Sizes → Header → Sight → ℕ → Workers → Type 0
EachStands sizes header sight n [] = ⊤
EachStands sizes header sight n (worker ∷ workers) =
    ((worker.store.capacity ≡ header.capacity) × StandsAt sizes sight n worker.store.blocks) × EachStands sizes header sight (n + 1) workers

-- no file is on any other worker
abbrev pub IsWithin : Header → Sight → Type 0
IsWithin header sight = (f : FileId) (w : WorkerId) → sight.place f ≡ Some w → w.0 < header.workers

abbrev pub Stands : Sizes → Header → Sight → Workers → Type 0
Stands sizes header sight workers = (length workers ≡ header.workers) × EachStands sizes header sight 0 workers × IsWithin header sight

-- as many workers as the header says, each with the blocks of just the files that the past has there, in their order
abbrev pub StandsInOrder : Sizes → Header → Past → Workers → Type 0
StandsInOrder sizes header past workers = Stands sizes header (sight_of past) workers

-- each record has the number of its place
abbrev pub IsNumbered : Past → Type 0
IsNumbered past = (i : ℕ) (r : Record) → slice_get (records past) i ≡ Some r → id_of r ≡ record { 0 = i }

-- the excepted files are just those that are pinned or wanted
abbrev pub ExceptsBy : Past → (FileId → Bool) → Type 0
ExceptsBy past excepted = (f : FileId) → excepted f ≡ not (may_go past f)

abbrev pub victim_on : Past → WorkerId → Option (WorkerId × FileId)
victim_on past worker = option_map (λ f. (worker, f)) (victim past worker)

abbrev pub due_on : Past → Option WorkerId → Option (WorkerId × FileId)
due_on past None = None
due_on past (Some worker) = victim_on past worker

-- the least worker that is over its capacity and has a victim, and this victim
abbrev pub due : Sizes → Header → Past → Option (WorkerId × FileId)
due sizes header past = due_on past (first_to_drop sizes header past)
