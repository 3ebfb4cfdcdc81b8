-- Whether all that a move takes along has a path.
use Rattle.std.specs.Prelude.{ℕ, zero, suc, ◌-◌, nat_lt, Bool, true, false, ◌&&◌, List, length}
use Rattle.std.specs.List.{list_all, flat_map}
use Rattle.tl_types.specs.Path.{slash_before}
use Rattle.tl_model.specs.Namespace.{PathOf}
use Rattle.tl_names.specs.declared.child.Child.{Child}
use Rattle.tl_names.specs.declared.child.Child.TheVariants.{Dir, File}
use Rattle.tl_names.specs.Tables.{Dirs, children_at}

-- as many bytes as components take, each with its `/`
abbrev pub bytes_of : PathOf → ℕ
bytes_of path = length (flat_map slash_before path)

-- whether a test holds of each name in the directory that a child is
abbrev pub all_below : Dirs → (List ℕ × Child → Bool) → Child → Bool
all_below dirs test (File f pinned) = true
all_below dirs test (Dir d) = list_all test (children_at dirs d)

-- whether a name and all names below it fit, where so many components and bytes are left
abbrev pub child_fits : Dirs → ℕ → ℕ → List ℕ × Child → Bool
child_fits dirs zero bytes entry = false
child_fits dirs (suc parts) bytes entry = nat_lt (length entry.0) bytes && all_below dirs (child_fits dirs parts (bytes - 1 - length entry.0)) entry.1
