-- The past: the events of a journal, the newest first.
use Rattle.std.specs.Prelude.{ℕ, List, map}
use Rattle.tl_model.specs.declared.command.Command.{Command}
use Rattle.tl_model.specs.declared.command.Command.TheVariants.{Put, Job, Read, Delete, Mkdir, Rename, Pin, Unpin, List as list, Stat, Free as free}
use Rattle.tl_model.specs.declared.event.Act.{Act}
use Rattle.tl_model.specs.declared.event.Act.TheVariants.{Call, Served, Shut, Claim, Done, Back, Lose, Free, Drop, Load, Save, Saved, Unsave, Collect}
use Rattle.tl_model.specs.declared.event.Event.{Event}

-- a command with something else in the place of its ticket
abbrev pub command_with : {T U : Type 0} → (T → U) → Command T → Command U
command_with f (Put path len digest ticket) = Put path len digest (f ticket)
command_with f (Job core prio inputs outputs) = Job core prio inputs outputs
command_with f (Read path prio form) = Read path prio form
command_with f (Delete path) = Delete path
command_with f (Mkdir path) = Mkdir path
command_with f (Rename from to) = Rename from to
command_with f (Pin path) = Pin path
command_with f (Unpin path) = Unpin path
command_with f (list path) = list path
command_with f (Stat path) = Stat path
command_with f (free path) = free path

abbrev pub act_with : {T U : Type 0} → (T → U) → Act T → Act U
act_with f (Call command reply) = Call (command_with f command) reply
act_with f (Served file digest) = Served file digest
act_with f (Shut file) = Shut file
act_with f (Claim worker made) = Claim worker made
act_with f (Done worker made) = Done worker made
act_with f (Back made) = Back made
act_with f (Lose worker) = Lose worker
act_with f (Free file) = Free file
act_with f (Drop worker file) = Drop worker file
act_with f (Load worker file) = Load worker file
act_with f (Save file) = Save file
act_with f (Saved file size digest) = Saved file size digest
act_with f (Unsave file) = Unsave file
act_with f (Collect made) = Collect made

abbrev pub event_with : {T U : Type 0} → (T → U) → Event T → Event U
event_with f e = record { actor = e.actor; act = act_with f e.act }

abbrev pub events_with : {T U : Type 0} → (T → U) → List (Event T) → List (Event U)
events_with f events = map (event_with f) events

-- most definitions ask nothing of a ticket, and speak of events without them
abbrev pub Plain : Type 0
Plain = Event (Unit {0})

abbrev pub Past : Type 0
Past = List Plain

abbrev pub without_tickets : {T : Type 0} → List (Event T) → Past
without_tickets events = events_with (λ _. tt) events

-- the others speak of events whose tickets are told, each by the bytes that it is for
abbrev pub Told : Type 0
Told = List (Event (List ℕ))
