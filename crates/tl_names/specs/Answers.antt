-- How a command is answered by the tables.
use Rattle.std.specs.Prelude.{◌≡◌, ℕ, ◌+◌, ◌≤◌, Bool, true, false, length}
use Rattle.tl_model.specs.declared.command.Command.{Command}
use Rattle.tl_model.specs.declared.command.Command.TheVariants.{Put, Job, Read, Delete, Mkdir, Rename, Pin, Unpin, List as list, Stat, Free}
use Rattle.tl_model.specs.declared.reply.Reply.{Reply}
use Rattle.tl_model.specs.declared.reply.Reply.TheVariants.{Made, Fine}
use Rattle.tl_model.specs.Namespace.{Names}
use Rattle.tl_model.specs.Replies.{reply_to}
use Rattle.tl_model.specs.Past.{command_with}
use Rattle.tl_model.specs.History.{HistoryOf, names_of, records_of, names_after, record_made}
use Rattle.tl_names.specs.Pins.{PinList, PinsStandFor}
use Rattle.tl_names.specs.Standing.{StandsFor}
use Rattle.tl_names.specs.Tables.{Dirs, IsTree}

-- the directories, and which files have a name
pub record Tables : Type 0 where
  pub dirs : Dirs
  pub pins : PinList

abbrev pub tables : Dirs → PinList → Tables
tables dirs pins = record { dirs = dirs; pins = pins }

-- whether the reply says that the names may have changed
abbrev pub is_accepted : Reply → Bool
is_accepted (Made made) = true
is_accepted Fine = true
is_accepted _ = false

-- the ticket of a put has no part in its answer
abbrev pub plain : {T : Type 0} → Command T → Command (Unit {0})
plain command = command_with (λ _. tt) command

-- the command's outputs have numbers below 255
abbrev pub HasFewOutputs : {T : Type 0} → Command T → Type 0
HasFewOutputs (Job core prio inputs outputs) = length outputs ≤ 255
HasFewOutputs (Put path len digest ticket) = Unit {0}
HasFewOutputs (Read path prio form) = Unit {0}
HasFewOutputs (Delete path) = Unit {0}
HasFewOutputs (Mkdir path) = Unit {0}
HasFewOutputs (Rename from to) = Unit {0}
HasFewOutputs (Pin path) = Unit {0}
HasFewOutputs (Unpin path) = Unit {0}
HasFewOutputs (list path) = Unit {0}
HasFewOutputs (Stat path) = Unit {0}
HasFewOutputs (Free path) = Unit {0}

-- the reply is the one that the names give after so many records, and the tables follow them
pub record Answers (old new : Tables) (count : ℕ) (command : Command (Unit {0})) (reply : Reply) : Type 0 where
  pub said : (names : Names) → StandsFor old.dirs names → reply ≡ reply_to names count command
  pub names : (names : Names) → StandsFor old.dirs names → StandsFor new.dirs (names_after reply command names)
  pub pins : (names : Names) → StandsFor old.dirs names → PinsStandFor old.pins names count →
      PinsStandFor new.pins (names_after reply command names) (count + length (record_made reply command names))
  pub unchanged : is_accepted reply ≡ false → new ≡ old
  pub tree : IsTree new.dirs

-- the tables are those of a history
pub record IsNamesOf {T : Type 0} (t : Tables) (calls : HistoryOf T) : Type 0 where
  pub names : StandsFor t.dirs (names_of calls)
  pub pins : PinsStandFor t.pins (names_of calls) (length (records_of calls))
