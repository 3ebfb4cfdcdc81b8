-- The namespace: what each path names.
use Rattle.std.specs.Prelude.{ℕ, ◌+◌, ◌-◌, ◌==◌, Bool, true, false, ◌&&◌, not, List, [], ◌∷◌, ◌++◌, length, map, filter, take, drop, Option, is_some, if◌then◌else◌}
use Rattle.std.specs.List.{starts_with}
use Rattle.std.specs.Map.{lookup}
use Rattle.std.specs.Str.{bytes_eq}
use Rattle.tl_types.specs.Same.{path_same}
use Rattle.tl_types.specs.declared.file_id.FileId.{FileId}
use Rattle.tl_types.specs.declared.record_id.RecordId.{RecordId}

-- the components of a path
abbrev pub PathOf : Type 0
PathOf = List (List ℕ)

-- a directory, or a file that may be pinned
pub data Node : Type 0 where
  dir : Node
  file : FileId → (pinned : Bool) → Node

-- a finite map from paths to nodes, as a list of its pairs, of which no two have one path
abbrev pub Names : Type 0
Names = List (PathOf × Node)

-- at first `/` is a directory
abbrev pub no_names : Names
no_names = ([], dir) ∷ []

abbrev pub node_at : Names → PathOf → Option Node
node_at names path = lookup (path_same path) names

abbrev pub is_dir : Node → Bool
is_dir dir = true
is_dir (file f pinned) = false

-- a path begins with another where it is that path or lies below it
abbrev pub is_below : PathOf → PathOf → Bool
is_below path above = starts_with bytes_eq path above

-- a path without its last component
abbrev pub parent : PathOf → PathOf
parent path = take (length path - 1) path

-- the last component of a path
abbrev pub last_part : PathOf → List ℕ
last_part [] = []
last_part (part ∷ []) = part
last_part (part ∷ next ∷ rest) = last_part (next ∷ rest)

-- one component below the path
abbrev pub is_child : PathOf → PathOf → Bool
is_child above path = length path == length above + 1 && is_below path above

abbrev pub children : Names → PathOf → Names
children names path = filter (λ entry. is_child path entry.0) names

-- ---- changes

abbrev pub without_name : Names → PathOf → Names
without_name names path = filter (λ entry. not (path_same path entry.0)) names

-- a new pair takes the place of an old one of its path
abbrev pub with_name : Names → PathOf → Node → Names
with_name names path node = (path, node) ∷ without_name names path

-- the outputs of a record, from number k on, each unpinned
abbrev pub with_outputs : Names → RecordId → ℕ → List PathOf → Names
with_outputs names made k [] = names
with_outputs names made k (path ∷ paths) = with_outputs (with_name names path (file (record { rec = made; out = k }) false)) made (k + 1) paths

-- a path from at or below `from`, moved to `to`
abbrev pub moved : PathOf → PathOf → PathOf → PathOf
moved from to path = if is_below path from then to ++ drop (length from) path else path

-- a pair that stays, but whose path is that of one that moves
abbrev pub is_replaced : Names → PathOf → PathOf → PathOf → Bool
is_replaced names from to path =
    not (is_below path from) && is_below path to && is_some (node_at names (moved to from path))

-- a moved pair takes the place of an old one of its path
abbrev pub with_moved : Names → PathOf → PathOf → Names
with_moved names from to =
    map (λ entry. (moved from to entry.0, entry.1)) (filter (λ entry. not (is_replaced names from to entry.0)) names)

abbrev pub with_pin : Bool → Node → Node
with_pin pinned dir = dir
with_pin pinned (file f was) = file f pinned

abbrev pub with_pinned : Names → PathOf → Bool → Names
with_pinned names path pinned = map (λ entry. (entry.0, if path_same path entry.0 then with_pin pinned entry.1 else entry.1)) names
