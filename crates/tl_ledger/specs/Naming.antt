-- What paths name, and the record that a command may add.
use Rattle.std.specs.Prelude.{List, [], ◌∷◌, length, Option, Some, None}
use Rattle.tl_types.specs.declared.record_id.RecordId.{RecordId}
use Rattle.tl_model.specs.declared.command.Command.{Command}
use Rattle.tl_model.specs.declared.command.Command.TheVariants.{Put, Job, Delete}
use Rattle.tl_model.specs.declared.reply.Reply.{Reply}
use Rattle.tl_model.specs.declared.reply.Reply.TheVariants.{Fine}
use Rattle.tl_model.specs.declared.record.Record.{Record}
use Rattle.tl_model.specs.declared.record.Record.TheVariants as kind
use Rattle.tl_types.specs.declared.file_id.FileId.{FileId}
use Rattle.tl_model.specs.Namespace.{Names, PathOf}
use Rattle.tl_model.specs.Replies.{walk_to_file}
use Rattle.tl_model.specs.Rules.{ok_file}
use Rattle.tl_names.specs.declared.found.Found.{Found}
use Rattle.tl_names.specs.declared.found.Found.TheVariants.{File}

-- the file that a path names, if it names one
abbrev pub file_named : Names → PathOf → Option FileId
file_named names path = ok_file (walk_to_file names path)

-- the file that was found, if it is one
abbrev pub file_found : Found → Option FileId
file_found (File f pinned) = Some f
file_found _ = None

abbrev pub with_found : Option FileId → List FileId → List FileId
with_found None files = files
with_found (Some f) files = f ∷ files

-- the files that paths name
abbrev pub files_named : Names → List PathOf → List FileId
files_named names [] = []
files_named names (path ∷ paths) = with_found (file_named names path) (files_named names paths)

-- the record of this number that a command adds where it is accepted
abbrev pub record_for : {T : Type 0} → RecordId → Names → Command T → Option Record
record_for made names (Put path len digest ticket) = Some (kind.Put made)
record_for made names (Job core prio inputs outputs) =
    Some (kind.Job made core prio (files_named names inputs) (length outputs))
record_for made names _ = None

-- the file that a command is to delete, if there is one
abbrev pub deleted_file : {T : Type 0} → Names → Command T → Option FileId
deleted_file names (Delete path) = file_named names path
deleted_file names _ = None

-- the file that a call leaves without a name, of the one that it was to delete
abbrev pub gone_after : Reply → Option FileId → Option FileId
gone_after Fine deleted = deleted
gone_after _ deleted = None
