-- The tables: the names of each directory, by the directory's number, and which files have a name.
use Rattle.std.specs.Prelude.{◌≡◌, ℕ, ◌∷◌, [], List, map, Bool, true, false, Option, Some, None, IsSome, is_some, if◌then◌else◌, Result, Ok, Err, unwrap_or, slice_index_or, slice_set}
use Rattle.std.specs.Global.{Vec}
use Rattle.std.specs.BTreeMap.{insert_entry}
use Rattle.std.specs.Cmp.Lexicographic.{slice_cmp}
use Rattle.std.specs.List.Sorted.{IsStrictlySortedBy}
use Rattle.std.specs.Map.{keys_of, lookup, remove_entry}
use Rattle.std.specs.Ordering.{nat_cmp}
use Rattle.std.specs.Str.{bytes_eq}
use Rattle.tl_types.specs.declared.file_id.FileId.{FileId}
use Rattle.tl_model.specs.declared.reply.Entry.{Entry}
use Rattle.tl_model.specs.declared.reply.Reply.{Reply}
use Rattle.tl_model.specs.declared.reply.Reply.TheVariants.{Exists, NoSuch, NotFile, NotDir}
use Rattle.tl_model.specs.Namespace.{PathOf, Node, dir, file, parent, last_part}
use Rattle.tl_model.specs.Replies.{and_then, or_else, refusal_of}
use Rattle.tl_names.specs.declared.child.Child.{Child}
use Rattle.tl_names.specs.declared.child.Child.TheVariants.{Dir, File}

-- the names of a directory, each with what it stands for
abbrev pub Children : Type 0
Children = List (List ℕ × Child)

abbrev pub children_of : List (Vec ℕ × Child) → Children
children_of entries = map (λ entry. (entry.0.items, entry.1)) entries

-- the directories by their numbers; a number may be out of use
abbrev pub Dirs : Type 0
Dirs = List (Option Children)

-- the names of the directory of this number
abbrev pub children_at : Dirs → ℕ → Children
children_at dirs d = unwrap_or (slice_index_or dirs d None) []

-- what a name in this directory stands for
abbrev pub child_at : Dirs → ℕ → List ℕ → Option Child
child_at dirs d name = lookup (bytes_eq name) (children_at dirs d)

abbrev pub found_child : Option Child → Result Child Reply
found_child None = Err NoSuch
found_child (Some child) = Ok child

-- one component further
abbrev pub step : Dirs → List ℕ → Child → Result Child Reply
step dirs part (File f pinned) = Err NotDir
step dirs part (Dir d) = found_child (child_at dirs d part)

-- on from here, component by component
abbrev pub walk_from : Dirs → PathOf → Child → Result Child Reply
walk_from dirs [] child = Ok child
walk_from dirs (part ∷ rest) child = and_then (step dirs part child) (walk_from dirs rest)

-- from `/`, the directory of number 0
abbrev pub place : Dirs → PathOf → Result Child Reply
place dirs path = walk_from dirs path (Dir 0)

abbrev pub node_of : Child → Node
node_of (Dir d) = dir
node_of (File f pinned) = file f pinned

abbrev pub node_found : Result Child Reply → Option Node
node_found (Ok child) = Some (node_of child)
node_found (Err refusal) = None

-- what a path names
abbrev pub node_in : Dirs → PathOf → Option Node
node_in dirs path = node_found (place dirs path)

abbrev pub is_dir_child : Child → Bool
is_dir_child (Dir d) = true
is_dir_child (File f pinned) = false

-- the file that a name stands for
abbrev pub file_of : Child → Result FileId Reply
file_of (Dir d) = Err NotFile
file_of (File f pinned) = Ok f

-- why the first path that names no file names none
abbrev pub first_refusal : Dirs → List PathOf → Option Reply
first_refusal dirs [] = None
first_refusal dirs (path ∷ paths) = or_else (refusal_of (and_then (place dirs path) file_of)) (first_refusal dirs paths)

-- the entry of a name in a listing
abbrev pub entry_in : List ℕ × Child → Entry
entry_in child = record { name = child.0; dir = is_dir_child child.1 }

-- the directory in which a new name of this spelling can be made
abbrev pub room_in : Dirs → List ℕ → Child → Result ℕ Reply
room_in dirs name (File f pinned) = Err NotDir
room_in dirs name (Dir d) = if is_some (child_at dirs d name) then Err Exists else Ok d

abbrev pub room_for : Dirs → PathOf → Result ℕ Reply
room_for dirs [] = Err Exists
room_for dirs (part ∷ rest) = and_then (place dirs (parent (part ∷ rest))) (room_in dirs (last_part (part ∷ rest)))

-- ---- changes

-- this name in a directory stands for this from now on
abbrev pub with_child : Dirs → ℕ → List ℕ → Child → Dirs
with_child dirs d name child = slice_set dirs d (Some (insert_entry (slice_cmp nat_cmp) (children_at dirs d) name child))

-- this name in a directory is gone
abbrev pub without_child : Dirs → ℕ → List ℕ → Dirs
without_child dirs d name = slice_set dirs d (Some (remove_entry (bytes_eq name) (children_at dirs d)))

-- the name at a path stands for this from now on
abbrev pub put_in : Dirs → List ℕ → Child → Result Child Reply → Dirs
put_in dirs name child (Ok (Dir d)) = with_child dirs d name child
put_in dirs name child (Ok (File f pinned)) = dirs
put_in dirs name child (Err refusal) = dirs

abbrev pub put_at : Dirs → PathOf → Child → Dirs
put_at dirs path child = put_in dirs (last_part path) child (place dirs (parent path))

-- ---- what always holds

-- the directory of this number is in use
abbrev pub IsKnown : Dirs → ℕ → Type 0
IsKnown dirs d = IsSome (slice_index_or dirs d None)

-- the directories make a tree with `/` at its root, and the names in each ascend by their bytes
pub record IsTree (dirs : Dirs) : Type 0 where
  pub root : IsKnown dirs 0
  pub ascending : (d : ℕ) → IsStrictlySortedBy (slice_cmp nat_cmp) (keys_of (children_at dirs d))
  pub known : (d e : ℕ) (name : List ℕ) → child_at dirs d name ≡ Some (Dir e) → IsKnown dirs e
  pub top : (d : ℕ) (name : List ℕ) → child_at dirs d name ≡ Some (Dir 0) → ⊥
  pub once : (c d e : ℕ) (name other : List ℕ) → child_at dirs c name ≡ Some (Dir e) → child_at dirs d other ≡ Some (Dir e) → (c ≡ d) × (name ≡ other)

-- a new directory is made at the path
pub record MakesDir (old new : Dirs) (path : PathOf) : Type 0 where
  pub number : ℕ
  pub was_vacant : slice_index_or old number None ≡ None
  pub names : (d : ℕ) → children_at new d ≡ children_at (put_at old path (Dir number)) d
  pub known : (d : ℕ) → IsKnown (put_at old path (Dir number)) d → IsKnown new d
  pub made : IsKnown new number
