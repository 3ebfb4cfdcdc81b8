-- How a store keeps its blocks: each under its file.
use Rattle.std.specs.Prelude.{◌≡◌, ℕ, ◌^◌, ◌<◌, List}
use Rattle.std.specs.List.{AllByRecursion}
use Rattle.std.specs.Map.{values_of}
use Rattle.tl_types.specs.Block.{FileOutcome}
use Rattle.tl_types.specs.declared.file_id.FileId.{FileId}
use Rattle.tl_store.specs.Contents.{block_size, used_by}

abbrev pub Entries : Type 0
Entries = List (FileId × FileOutcome)

-- a block under its file, whose size is a word of the machine
abbrev pub IsKept : FileId × FileOutcome → Type 0
IsKept entry = (entry.0 ≡ entry.1.file) × (block_size entry.1 < 2 ^ 64)

abbrev pub EachKept : Entries → Type 0
EachKept entries = AllByRecursion IsKept entries

-- each block is kept so, and `used` is the sum of their sizes
pub record IsTallied (entries : Entries) (used : ℕ) : Type 0 where
  pub each : EachKept entries
  pub total : used ≡ used_by (values_of entries)
