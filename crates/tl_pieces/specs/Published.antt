-- Published calls, and what a glance at the names finds.
use Rattle.std.specs.Prelude.{ℕ, ◌-◌, Bool, true, false, List, length, filter, drop}
use Rattle.tl_model.specs.declared.command.Command.{Command}
use Rattle.tl_model.specs.declared.command.Command.TheVariants.{Stat, Free}
use Rattle.tl_model.specs.declared.reply.Reply.{Reply}
use Rattle.tl_model.specs.declared.reply.Reply.TheVariants.{Made, Fine}
use Rattle.tl_model.specs.History.{CallOf, HistoryOf, names_of}
use Rattle.tl_model.specs.Namespace.{PathOf}
use Rattle.tl_model.specs.Replies.{reply_to}

-- a free changes no names
abbrev pub changes_names : {T : Type 0} → Command T → Bool
changes_names (Free path) = false
changes_names _ = true

abbrev pub is_published_as : {T : Type 0} → Reply → Command T → Bool
is_published_as (Made made) command = changes_names command
is_published_as Fine command = changes_names command
is_published_as _ command = false

abbrev pub is_published : {T : Type 0} → CallOf T → Bool
is_published call = is_published_as call.reply call.command

-- the calls that were made or done, but frees
abbrev pub published : {T : Type 0} → HistoryOf T → HistoryOf T
published calls = filter is_published calls

-- of a list with the newest first, the u oldest
abbrev pub oldest : {A : Type 0} → ℕ → List A → List A
oldest u xs = drop (length xs - u) xs

-- the reply of a stat of the path in the names of the first u published calls
abbrev pub glimpse : {T : Type 0} → HistoryOf T → ℕ → PathOf → Reply
glimpse {T} calls u path = reply_to {T = T} (names_of (oldest u (published calls))) 0 (Stat path)
