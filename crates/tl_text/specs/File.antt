-- Files as text.
use Rattle.std.specs.Prelude.{ℕ, List, ◌∷◌, ◌++◌}
use Rattle.std.specs.Fmt.{decimal}
use Rattle.tl_types.specs.declared.file_id.FileId.{FileId}

-- the number of the record, `.`, and the number of the output
abbrev pub file_text : FileId → List ℕ
file_text file = decimal file.rec.0 ++ 0x2E ∷ decimal file.out
