-- A short journal: a text is put, and then read.
use Rattle.std.specs.Prelude.{ℕ, List, [], ◌∷◌, length}
use Rattle.tl_types.specs.declared.digest.Digest.{Digest}
use Rattle.tl_types.specs.declared.file_id.FileId.{FileId}
use Rattle.tl_model.specs.declared.command.Command.{Command}
use Rattle.tl_model.specs.declared.command.Command.TheVariants.{Put, Read}
use Rattle.tl_model.specs.declared.command.Form.TheVariants.{Cat}
use Rattle.tl_model.specs.declared.event.Act.TheVariants.{Call, Load, Saved, Served}
use Rattle.tl_model.specs.declared.reply.Reply.TheVariants.{Made, Opened}
use Rattle.tl_model.specs.Namespace.{PathOf}
use Rattle.tl_pieces.specs.Setting.{Setting, Events, event_by}

-- `/a`
abbrev pub the_path : PathOf
the_path = (97 ∷ []) ∷ []

-- the file that the first record makes
abbrev pub a_file : FileId
a_file = record { rec = record { 0 = 0 }; out = 0 }

abbrev pub read_of : {T : Type 0} → Command T
read_of = Read the_path 0 Cat

abbrev pub after_put : {T : Type 0} → Setting T → List ℕ → Digest → T → Events T
after_put s text digest ticket =
    event_by s.actor (Saved a_file (length text) digest)
    ∷ event_by s.actor (Call (Put the_path (length text) digest ticket) (Made (record { 0 = 0 })))
    ∷ []

abbrev pub after_read : {T : Type 0} → Setting T → List ℕ → Digest → T → Events T
after_read s text digest ticket =
    event_by s.actor (Served a_file digest)
    ∷ event_by s.actor (Load s.worker a_file)
    ∷ event_by s.actor (Call read_of (Opened a_file))
    ∷ after_put s text digest ticket
