-- Names, records and replies are the same with tickets and without.
use Rattle.std.proofs.Common.{◌≡◌, ℕ, List, [], ◌∷◌, ◌++◌, length, refl, ap, ◌∙◌}
use Rattle.tl_types.specs.declared.actor.Actor.{Actor}
use Rattle.tl_model.specs.declared.command.Command.{Command}
use Rattle.tl_model.specs.declared.command.Command.TheVariants.{Put, Job, Read, Delete, Mkdir, Rename, Pin, Unpin, List as list, Stat, Free as free}
use Rattle.tl_model.specs.declared.reply.Reply.{Reply}
use Rattle.tl_model.specs.declared.reply.Reply.TheVariants.{Made, Fine, Opened, Listed, Stated, Exists, NoSuch, NotFile, NotDir, NotEmpty, TooDeep, IntoItself, TooMany}
use Rattle.tl_model.specs.declared.event.Act.{Act}
use Rattle.tl_model.specs.declared.event.Act.TheVariants.{Call, Served, Shut, Claim, Done, Back, Lose, Free, Drop, Load, Save, Saved, Unsave, Collect}
use Rattle.tl_model.specs.declared.event.Event.{Event}
use Rattle.tl_model.specs.Namespace.{Names}
use Rattle.tl_model.specs.Past.{command_with, act_with, events_with}
use Rattle.tl_model.specs.Replies.{reply_to}
use Rattle.tl_model.specs.History.{HistoryOf, calls_of, names_of, records_of, record_made, names_after, with_call, reply_after}

names_after-with : {T U : Type 0} (f : T → U) (reply : Reply) (command : Command T) (names : Names) →
    names_after reply (command_with f command) names ≡ names_after reply command names
names_after-with f (Made made) (Put path len digest ticket) names = refl
names_after-with f (Made made) (Job core prio inputs outputs) names = refl
names_after-with f (Made made) (Read path prio form) names = refl
names_after-with f (Made made) (Delete path) names = refl
names_after-with f (Made made) (Mkdir path) names = refl
names_after-with f (Made made) (Rename from to) names = refl
names_after-with f (Made made) (Pin path) names = refl
names_after-with f (Made made) (Unpin path) names = refl
names_after-with f (Made made) (list path) names = refl
names_after-with f (Made made) (Stat path) names = refl
names_after-with f (Made made) (free path) names = refl
names_after-with f Fine (Put path len digest ticket) names = refl
names_after-with f Fine (Job core prio inputs outputs) names = refl
names_after-with f Fine (Read path prio form) names = refl
names_after-with f Fine (Delete path) names = refl
names_after-with f Fine (Mkdir path) names = refl
names_after-with f Fine (Rename from to) names = refl
names_after-with f Fine (Pin path) names = refl
names_after-with f Fine (Unpin path) names = refl
names_after-with f Fine (list path) names = refl
names_after-with f Fine (Stat path) names = refl
names_after-with f Fine (free path) names = refl
names_after-with f (Opened g) command names = refl
names_after-with f (Listed entries) command names = refl
names_after-with f (Stated status) command names = refl
names_after-with f Exists command names = refl
names_after-with f NoSuch command names = refl
names_after-with f NotFile command names = refl
names_after-with f NotDir command names = refl
names_after-with f NotEmpty command names = refl
names_after-with f TooDeep command names = refl
names_after-with f IntoItself command names = refl
names_after-with f TooMany command names = refl

pub record_made-with : {T U : Type 0} (f : T → U) (reply : Reply) (command : Command T) (names : Names) →
    record_made reply (command_with f command) names ≡ record_made reply command names
record_made-with f (Made made) (Put path len digest ticket) names = refl
record_made-with f (Made made) (Job core prio inputs outputs) names = refl
record_made-with f (Made made) (Read path prio form) names = refl
record_made-with f (Made made) (Delete path) names = refl
record_made-with f (Made made) (Mkdir path) names = refl
record_made-with f (Made made) (Rename from to) names = refl
record_made-with f (Made made) (Pin path) names = refl
record_made-with f (Made made) (Unpin path) names = refl
record_made-with f (Made made) (list path) names = refl
record_made-with f (Made made) (Stat path) names = refl
record_made-with f (Made made) (free path) names = refl
record_made-with f Fine command names = refl
record_made-with f (Opened g) command names = refl
record_made-with f (Listed entries) command names = refl
record_made-with f (Stated status) command names = refl
record_made-with f Exists command names = refl
record_made-with f NoSuch command names = refl
record_made-with f NotFile command names = refl
record_made-with f NotDir command names = refl
record_made-with f NotEmpty command names = refl
record_made-with f TooDeep command names = refl
record_made-with f IntoItself command names = refl
record_made-with f TooMany command names = refl

-- the reply to a command asks nothing of its ticket
pub reply_to-with : {T U : Type 0} (f : T → U) (names : Names) (count : ℕ) (command : Command T) →
    reply_to names count (command_with f command) ≡ reply_to names count command
reply_to-with f names count (Put path len digest ticket) = refl
reply_to-with f names count (Job core prio inputs outputs) = refl
reply_to-with f names count (Read path prio form) = refl
reply_to-with f names count (Delete path) = refl
reply_to-with f names count (Mkdir path) = refl
reply_to-with f names count (Rename from to) = refl
reply_to-with f names count (Pin path) = refl
reply_to-with f names count (Unpin path) = refl
reply_to-with f names count (list path) = refl
reply_to-with f names count (Stat path) = refl
reply_to-with f names count (free path) = refl

-- the names and the records that a history leaves, each from those before it
names_step : {T U : Type 0} (f : T → U) (actor : Actor) (act : Act T) (told : HistoryOf U) (calls : HistoryOf T) → names_of told ≡ names_of calls →
    names_of (with_call actor (act_with f act) told) ≡ names_of (with_call actor act calls)
names_step f actor (Call command reply) told calls e =
    names_after-with f reply command (names_of told) ∙ ap (names_after reply command) e
names_step f actor (Served file digest) told calls e = e
names_step f actor (Shut file) told calls e = e
names_step f actor (Claim worker made) told calls e = e
names_step f actor (Done worker made) told calls e = e
names_step f actor (Back made) told calls e = e
names_step f actor (Lose worker) told calls e = e
names_step f actor (Free file) told calls e = e
names_step f actor (Drop worker file) told calls e = e
names_step f actor (Load worker file) told calls e = e
names_step f actor (Save file) told calls e = e
names_step f actor (Saved file size digest) told calls e = e
names_step f actor (Unsave file) told calls e = e
names_step f actor (Collect made) told calls e = e

pub names-with : {T U : Type 0} (f : T → U) (events : List (Event T)) → names_of (calls_of (events_with f events)) ≡ names_of (calls_of events)
names-with f [] = refl
names-with f (e ∷ events) = names_step f e.actor e.act (calls_of (events_with f events)) (calls_of events) (names-with f events)

records_step : {T U : Type 0} (f : T → U) (actor : Actor) (act : Act T) (told : HistoryOf U) (calls : HistoryOf T) → names_of told ≡ names_of calls →
    records_of told ≡ records_of calls → records_of (with_call actor (act_with f act) told) ≡ records_of (with_call actor act calls)
records_step f actor (Call command reply) told calls e r =
    ap (λ more. records_of told ++ more) (record_made-with f reply command (names_of told) ∙ ap (record_made reply command) e)
    ∙ ap (λ rs. rs ++ record_made reply command (names_of calls)) r
records_step f actor (Served file digest) told calls e r = r
records_step f actor (Shut file) told calls e r = r
records_step f actor (Claim worker made) told calls e r = r
records_step f actor (Done worker made) told calls e r = r
records_step f actor (Back made) told calls e r = r
records_step f actor (Lose worker) told calls e r = r
records_step f actor (Free file) told calls e r = r
records_step f actor (Drop worker file) told calls e r = r
records_step f actor (Load worker file) told calls e r = r
records_step f actor (Save file) told calls e r = r
records_step f actor (Saved file size digest) told calls e r = r
records_step f actor (Unsave file) told calls e r = r
records_step f actor (Collect made) told calls e r = r

pub records-with : {T U : Type 0} (f : T → U) (events : List (Event T)) → records_of (calls_of (events_with f events)) ≡ records_of (calls_of events)
records-with f [] = refl
records-with f (e ∷ events) =
    records_step f e.actor e.act (calls_of (events_with f events)) (calls_of events) (names-with f events) (records-with f events)

-- and so does the reply of a history
pub reply_after-with : {T U : Type 0} (f : T → U) (events : List (Event T)) (command : Command T) →
    reply_after (calls_of (events_with f events)) (command_with f command) ≡ reply_after (calls_of events) command
reply_after-with f events command =
    ap (λ names. reply_to names (length (records_of (calls_of (events_with f events)))) (command_with f command)) (names-with f events)
    ∙ ap (λ rs. reply_to (names_of (calls_of events)) (length rs) (command_with f command)) (records-with f events)
    ∙ reply_to-with f (names_of (calls_of events)) (length (records_of (calls_of events))) command
