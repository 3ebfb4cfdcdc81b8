-- When the tables stand for names.
use Rattle.std.specs.Prelude.{◌≡◌, ◌∷◌, [], None}
use Rattle.tl_model.specs.Namespace.{PathOf, Names, node_at}
use Rattle.tl_names.specs.Tables.{Dirs, node_in}

-- each path stands once in the list
abbrev pub HasEachOnce : Names → Type 0
HasEachOnce [] = Unit {0}
HasEachOnce (entry ∷ names) = (node_at names entry.0 ≡ None) × HasEachOnce names

-- each path names the same in both, and none stands twice
pub record StandsFor (dirs : Dirs) (names : Names) : Type 0 where
  pub found : (path : PathOf) → node_in dirs path ≡ node_at names path
  pub once : HasEachOnce names
