-- What is kept of files.
use Rattle.std.specs.Prelude.{Bool, List, Option, Some, None, is_some}
use Rattle.std.specs.Map.{lookup}
use Rattle.tl_types.specs.Same.{file_same}
use Rattle.tl_types.specs.declared.file_id.FileId.{FileId}
use Rattle.tl_model.specs.declared.saved.Saved.{Saved}

-- a place for each of some files, and what is kept there, if anything is
abbrev pub Places : Type 0 → Type 0
Places T = List (FileId × Option (Saved T))

-- a file's place, if it has one
abbrev pub place_of : {T : Type 0} → FileId → Places T → Option (Option (Saved T))
place_of f places = lookup (file_same f) places

abbrev pub has_place : {T : Type 0} → FileId → Places T → Bool
has_place f places = is_some (place_of f places)

abbrev pub kept_at : {T : Type 0} → Option (Option (Saved T)) → Option (Saved T)
kept_at None = None
kept_at (Some kept) = kept

-- what is kept of a file
abbrev pub saved_of : {T : Type 0} → FileId → Places T → Option (Saved T)
saved_of f places = kept_at (place_of f places)
