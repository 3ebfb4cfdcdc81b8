-- Which file an event leaves without a name: only a delete does, and it is the file at its path.
use Rattle.std.specs.Prelude.{◌≡◌, Bool, true, false, [], ◌∷◌, Option, Some, None}
use Rattle.std.specs.List.{list_any}
use Rattle.tl_types.specs.declared.file_id.FileId.{FileId}
use Rattle.tl_model.specs.declared.command.Command.{Command}
use Rattle.tl_model.specs.declared.command.Command.TheVariants.{Delete}
use Rattle.tl_model.specs.declared.reply.Reply.{Reply}
use Rattle.tl_model.specs.declared.reply.Reply.TheVariants.{Fine}
use Rattle.tl_model.specs.declared.event.Act.{Act}
use Rattle.tl_model.specs.declared.event.Act.TheVariants.{Call}
use Rattle.tl_model.specs.Namespace.{Node, dir, file, Names, node_at}
use Rattle.tl_model.specs.History.{is_file_node}

-- a delete that was answered as done
abbrev pub deletes_by : Reply → Command (Unit {0}) → Bool
deletes_by Fine (Delete path) = true
deletes_by _ _ = false

abbrev pub deletes : Act (Unit {0}) → Bool
deletes (Call command reply) = deletes_by reply command
deletes _ = false

-- the file is among the names
abbrev pub has_name : FileId → Names → Bool
has_name f ns = list_any (λ entry. is_file_node f entry.1) ns

-- each path stands once in the list
abbrev pub HasPathsOnce : Names → Type 0
HasPathsOnce [] = Unit {0}
HasPathsOnce (entry ∷ ns) = (node_at ns entry.0 ≡ None) × HasPathsOnce ns

-- the file of a node has no other name
abbrev pub IsAlone : Node → Names → Type 0
IsAlone dir ns = Unit {0}
IsAlone (file f pinned) ns = has_name f ns ≡ false

-- each file has one name at most
abbrev pub HasFilesOnce : Names → Type 0
HasFilesOnce [] = Unit {0}
HasFilesOnce (entry ∷ ns) = IsAlone entry.1 ns × HasFilesOnce ns

-- the file of a node, if it is one
abbrev pub file_in : Option Node → Option FileId
file_in None = None
file_in (Some dir) = None
file_in (Some (file f pinned)) = Some f
