-- What a block is of.
use Rattle.tl_types.specs.declared.file_id.FileId.{FileId}
use Rattle.tl_types.specs.declared.outcome.Outcome.{Outcome}

-- a file, and what it holds
pub record FileOutcome : Type 0 where
  pub file : FileId
  pub outcome : Outcome
