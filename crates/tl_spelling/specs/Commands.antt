-- Commands as a journal spells them: as a script does, a put by its bytes.
use Rattle.std.specs.Prelude.{◌≡◌, ℕ, List, ◌++◌}
use Rattle.tl_model.specs.declared.command.Command.{Command}
use Rattle.tl_model.specs.declared.command.Command.TheVariants.{Put, Job, Read, Delete, Mkdir, Rename, Pin, Unpin, List as ListNames, Stat, Free}
use Rattle.tl_script.specs.declared.script.Op.{Op}
use Rattle.tl_script.specs.declared.script.Op.TheVariants as op
use Rattle.tl_script.specs.Tokens.{Token, spaced}
use Rattle.tl_script.specs.Commands.{op_text}

-- the command of a script; in the place of a put's ticket stand the bytes that it is for
abbrev pub op_of : Command (List ℕ) → Op
op_of (Put path len digest bytes) = op.Put path bytes
op_of (Job core prio inputs outputs) = op.Job core prio inputs outputs
op_of (Read path prio form) = op.Read path prio form
op_of (Delete path) = op.Delete path
op_of (Mkdir path) = op.Mkdir path
op_of (Rename from to) = op.Rename from to
op_of (Pin path) = op.Pin path
op_of (Unpin path) = op.Unpin path
op_of (ListNames path) = op.List path
op_of (Stat path) = op.Stat path
op_of (Free path) = op.Free path

-- the one text of a command
abbrev pub command_text : Command (List ℕ) → List ℕ
command_text command = op_text (op_of command)

-- what is printed from the old text to the new puts these tokens before whatever follows
abbrev pub Puts : List ℕ → List ℕ → (List Token → List Token) → Type 0
Puts old new before = (more : List Token) → new ++ spaced more ≡ old ++ spaced (before more)
