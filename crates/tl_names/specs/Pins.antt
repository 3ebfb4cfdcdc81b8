-- Which files have a name, and which of them are pinned.
use Rattle.std.specs.Prelude.{◌≡◌, ℕ, ◌+◌, ◌<◌, ◌⊎◌, List, [], ◌∷◌, length, Bool, true, false, Option, Some, None, if◌then◌else◌}
use Rattle.std.specs.List.{list_any}
use Rattle.std.specs.Map.{lookup}
use Rattle.tl_types.specs.Same.{file_same}
use Rattle.tl_types.specs.declared.file_id.FileId.{FileId}
use Rattle.tl_types.specs.declared.record_id.RecordId.{RecordId}
use Rattle.tl_model.specs.Namespace.{PathOf, Node, dir, file, Names, with_outputs}
use Rattle.tl_model.specs.History.{is_file_node, is_pinned_node}
use Rattle.tl_names.specs.Standing.{StandsFor}
use Rattle.tl_names.specs.Tables.{Dirs, IsTree}

-- the files with a name, in order, each with whether it is pinned
abbrev pub PinList : Type 0
PinList = List (FileId × Bool)

abbrev pub pin_in : PinList → FileId → Option Bool
pin_in pins f = lookup (file_same f) pins

-- whether the names have the file, and whether it is pinned there
abbrev pub names_file : FileId → PathOf × Node → Bool
names_file f entry = is_file_node f entry.1

abbrev pub pins_file : FileId → PathOf × Node → Bool
pins_file f entry = is_pinned_node f entry.1

abbrev pub pin_of : Names → FileId → Option Bool
pin_of names f = if list_any (names_file f) names then Some (list_any (pins_file f) names) else None

-- the file of a node has no other name
abbrev pub IsAlone : Node → Names → Type 0
IsAlone dir names = Unit {0}
IsAlone (file f pinned) names = list_any (names_file f) names ≡ false

-- each file has one name at most
abbrev pub HasFilesOnce : Names → Type 0
HasFilesOnce [] = Unit {0}
HasFilesOnce (entry ∷ names) = IsAlone entry.1 names × HasFilesOnce names

-- the pins are those of the names, each of whose files has one name and is of one of so many records
pub record PinsStandFor (pins : PinList) (names : Names) (count : ℕ) : Type 0 where
  pub found : (f : FileId) → pin_in pins f ≡ pin_of names f
  pub once : HasFilesOnce names
  pub made : (f : FileId) → list_any (names_file f) names ≡ true → f.rec.0 < count

-- the same while the outputs of a record are named, below number `out`
pub record PinsUpTo (pins : PinList) (names : Names) (count out : ℕ) : Type 0 where
  pub found : (f : FileId) → pin_in pins f ≡ pin_of names f
  pub once : HasFilesOnce names
  pub before : (f : FileId) → list_any (names_file f) names ≡ true → (f.rec.0 < count) ⊎ ((f.rec.0 ≡ count) × (f.out < out))

-- the outputs of a record have names, from number `out` on
pub record MakesFiles (old : Dirs) (pins : PinList) (new : Dirs) (after : PinList) (paths : List PathOf) (made : RecordId) (out : ℕ) : Type 0 where
  pub tree : IsTree new
  pub stands : (names : Names) → StandsFor old names → StandsFor new (with_outputs names made out paths)
  pub files : (names : Names) → StandsFor old names → PinsUpTo pins names made.0 out →
      PinsUpTo after (with_outputs names made out paths) made.0 (out + length paths)
