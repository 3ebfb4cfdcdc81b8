-- Commands done one after the other on the namespace. The record that a command makes has the command's place as its number.
use Rattle.std.specs.Prelude.{ℕ, ◌+◌, Bool, true, false, List, [], ◌∷◌, length, if◌then◌else◌}
use Rattle.tl_model.specs.declared.command.Command.{Command}
use Rattle.tl_model.specs.declared.reply.Reply.{Reply}
use Rattle.tl_model.specs.declared.reply.Reply.TheVariants.{Made, Fine, Stated}
use Rattle.tl_model.specs.Namespace.{Names}
use Rattle.tl_model.specs.Replies.{reply_to}
use Rattle.tl_model.specs.History.{names_after}

-- whether what was asked is done or told
abbrev pub is_done : Reply → Bool
is_done (Made made) = true
is_done Fine = true
is_done (Stated status) = true
is_done _ = false

-- the names after these commands, the newest first
abbrev pub names_by : {T : Type 0} → List (Command T) → Names → Names
names_by [] names = names
names_by (command ∷ before) names = names_after (reply_to (names_by before names) (length before) command) command (names_by before names)

-- how many of them are done
abbrev pub done_of : {T : Type 0} → List (Command T) → Names → ℕ
done_of [] names = 0
done_of (command ∷ before) names =
    done_of before names + (if is_done (reply_to (names_by before names) (length before) command) then 1 else 0)
