-- What a walk of the names finds.
use Rattle.std.specs.Prelude.{Ok, Err}
use Rattle.tl_model.specs.declared.reply.Reply.TheVariants as reply
use Rattle.tl_model.specs.Namespace.{dir, file}
use Rattle.tl_model.specs.Replies as replies
use Rattle.tl_names.specs.declared.found.Found.{Found}
use Rattle.tl_names.specs.declared.found.Found.TheVariants.{Dir, File, NoSuch, NotDir}

-- a walk is refused by a file on its way, or else by a name that isn't there
abbrev pub found : replies.Found → Found
found (Ok dir) = Dir
found (Ok (file f pinned)) = File f pinned
found (Err reply.NotDir) = NotDir
found (Err _) = NoSuch
