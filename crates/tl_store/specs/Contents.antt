-- What is in a worker's memory: its blocks, the most recently used first.
use Rattle.std.specs.Prelude.{ℕ, Bool, not, List, [], ◌∷◌, reverse, sum_by, Option, Some, None, is_some, if◌then◌else◌}
use Rattle.std.specs.List.{find, filter}
use Rattle.std.specs.Option.{option_map_or}
use Rattle.tl_types.specs.Block.{FileOutcome}
use Rattle.tl_types.specs.Outcome.{outcome_size}
use Rattle.tl_types.specs.Same.{file_same}
use Rattle.tl_types.specs.declared.file_id.FileId.{FileId}

-- the blocks, the most recently used first
abbrev pub Blocks : Type 0
Blocks = List FileOutcome

-- how many bytes a worker may have, and what it has
pub record Contents : Type 0 where
  pub capacity : ℕ
  pub blocks : Blocks

abbrev pub contents : ℕ → Blocks → Contents
contents capacity blocks = record { capacity = capacity; blocks = blocks }

abbrev pub is_of : FileId → FileOutcome → Bool
is_of f block = file_same f block.file

abbrev pub is_of_other : FileId → FileOutcome → Bool
is_of_other f block = not (is_of f block)

-- the block of a file
abbrev pub block_of : FileId → Blocks → Option FileOutcome
block_of f blocks = find (is_of f) blocks

abbrev pub has : FileId → Blocks → Bool
has f blocks = is_some (block_of f blocks)

-- all but the block of a file
abbrev pub without : FileId → Blocks → Blocks
without f blocks = filter (is_of_other f) blocks

-- the block of a file goes to the front; a file that is not there changes nothing
abbrev pub touched : FileId → Blocks → Blocks
touched f blocks = option_map_or (λ block. block ∷ without f blocks) (block_of f blocks) blocks

abbrev pub block_size : FileOutcome → ℕ
block_size block = outcome_size block.outcome

-- how many bytes the blocks have together
abbrev pub used_by : Blocks → ℕ
used_by blocks = sum_by block_size blocks

-- the first file that is not excepted
abbrev pub first_kept : (FileId → Bool) → Blocks → Option FileId
first_kept excepted [] = None
first_kept excepted (block ∷ blocks) = if excepted block.file then first_kept excepted blocks else Some block.file

-- the least recently used file that is not excepted
abbrev pub victim : (FileId → Bool) → Blocks → Option FileId
victim excepted blocks = first_kept excepted (reverse blocks)

-- the size of a block, and 0 where there is none
abbrev pub size_of_block : Option FileOutcome → ℕ
size_of_block None = 0
size_of_block (Some block) = block_size block
