-- What is told of tickets changes nothing else of a past.
use Rattle.std.proofs.Common.{◌≡◌, List, [], ◌∷◌, refl, ap}
use Rattle.tl_model.specs.declared.command.Command.{Command}
use Rattle.tl_model.specs.declared.command.Command.TheVariants.{Put, Job, Read, Delete, Mkdir, Rename, Pin, Unpin, List as list, Stat, Free as free}
use Rattle.tl_model.specs.declared.event.Act.{Act}
use Rattle.tl_model.specs.declared.event.Act.TheVariants.{Call, Served, Shut, Claim, Done, Back, Lose, Free, Drop, Load, Save, Saved, Unsave, Collect}
use Rattle.tl_model.specs.declared.event.Event.{Event}
use Rattle.tl_model.specs.Past.{command_with, act_with, event_with, events_with, without_tickets}

command-plain : {T U : Type 0} (f : T → U) (command : Command T) →
    command_with {U = Unit {0}} (λ _. tt) (command_with f command) ≡ command_with (λ _. tt) command
command-plain f (Put path len digest ticket) = refl
command-plain f (Job core prio inputs outputs) = refl
command-plain f (Read path prio form) = refl
command-plain f (Delete path) = refl
command-plain f (Mkdir path) = refl
command-plain f (Rename from to) = refl
command-plain f (Pin path) = refl
command-plain f (Unpin path) = refl
command-plain f (list path) = refl
command-plain f (Stat path) = refl
command-plain f (free path) = refl

act-plain : {T U : Type 0} (f : T → U) (act : Act T) → act_with {U = Unit {0}} (λ _. tt) (act_with f act) ≡ act_with (λ _. tt) act
act-plain f (Call command reply) = ap (λ c. Call c reply) (command-plain f command)
act-plain f (Served file digest) = refl
act-plain f (Shut file) = refl
act-plain f (Claim worker made) = refl
act-plain f (Done worker made) = refl
act-plain f (Back made) = refl
act-plain f (Lose worker) = refl
act-plain f (Free file) = refl
act-plain f (Drop worker file) = refl
act-plain f (Load worker file) = refl
act-plain f (Save file) = refl
act-plain f (Saved file size digest) = refl
act-plain f (Unsave file) = refl
act-plain f (Collect made) = refl

pub plain-told : {T U : Type 0} (f : T → U) (events : List (Event T)) → without_tickets (events_with f events) ≡ without_tickets events
plain-told f [] = refl
plain-told f (e ∷ events) =
    let head : event_with {U = Unit {0}} (λ _. tt) (event_with f e) ≡ event_with (λ _. tt) e = ap (λ a. record { actor = e.actor; act = a }) (act-plain f e.act) in
    λ i. head i ∷ plain-told f events i
