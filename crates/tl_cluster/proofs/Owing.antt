-- What is owed is the same whether or not tickets are told.
use Rattle.std.proofs.Common.{◌≡◌, true, List, [], ◌∷◌, refl, ap, ◌∙◌}
use Rattle.tl_types.specs.declared.actor.Actor.{Actor}
use Rattle.tl_model.specs.declared.command.Command.{Command}
use Rattle.tl_model.specs.declared.command.Command.TheVariants.{Put, Job, Read, Delete, Mkdir, Rename, Pin, Unpin, List as list, Stat, Free as free}
use Rattle.tl_model.specs.declared.event.Act.{Act}
use Rattle.tl_model.specs.declared.event.Act.TheVariants.{Call, Served, Shut, Claim, Done, Back, Lose, Free, Drop, Load, Save, Saved, Unsave, Collect}
use Rattle.tl_model.specs.declared.event.Event.{Event}
use Rattle.tl_model.specs.declared.reply.Reply.{Reply}
use Rattle.tl_model.specs.declared.reply.Reply.TheVariants.{Made, Fine, Opened, Listed, Stated, Exists, NoSuch, NotFile, NotDir, NotEmpty, TooDeep, IntoItself, TooMany}
use Rattle.tl_model.specs.Past.{Past, act_with, command_with, events_with, without_tickets}
use Rattle.tl_model.specs.Rules.{Owed, Nothing, lawful_judge, owed, owes_nothing, owed_after, owed_after_call}
use Rattle.tl_cluster.proofs.Told.{plain-told}

call-told : {T U : Type 0} (g : T → U) (past : Past) (actor : Actor) (reply : Reply) (command : Command T) (later : Owed) →
    owed_after_call past actor reply (command_with g command) later ≡ owed_after_call past actor reply command later
call-told g past actor (Made made) (Put path len digest ticket) later = refl
call-told g past actor (Made made) (Job core prio inputs outputs) later = refl
call-told g past actor (Made made) (Read path prio form) later = refl
call-told g past actor (Made made) (Delete path) later = refl
call-told g past actor (Made made) (Mkdir path) later = refl
call-told g past actor (Made made) (Rename from to) later = refl
call-told g past actor (Made made) (Pin path) later = refl
call-told g past actor (Made made) (Unpin path) later = refl
call-told g past actor (Made made) (list path) later = refl
call-told g past actor (Made made) (Stat path) later = refl
call-told g past actor (Made made) (free path) later = refl
call-told g past actor Fine (Put path len digest ticket) later = refl
call-told g past actor Fine (Job core prio inputs outputs) later = refl
call-told g past actor Fine (Read path prio form) later = refl
call-told g past actor Fine (Delete path) later = refl
call-told g past actor Fine (Mkdir path) later = refl
call-told g past actor Fine (Rename from to) later = refl
call-told g past actor Fine (Pin path) later = refl
call-told g past actor Fine (Unpin path) later = refl
call-told g past actor Fine (list path) later = refl
call-told g past actor Fine (Stat path) later = refl
call-told g past actor Fine (free path) later = refl
call-told g past actor (Opened f) command later = refl
call-told g past actor (Listed entries) command later = refl
call-told g past actor (Stated status) command later = refl
call-told g past actor Exists command later = refl
call-told g past actor NoSuch command later = refl
call-told g past actor NotFile command later = refl
call-told g past actor NotDir command later = refl
call-told g past actor NotEmpty command later = refl
call-told g past actor TooDeep command later = refl
call-told g past actor IntoItself command later = refl
call-told g past actor TooMany command later = refl

after-told : {T U : Type 0} (g : T → U) (past : Past) (actor : Actor) (act : Act T) (later : Owed) →
    owed_after past actor (act_with g act) later ≡ owed_after past actor act later
after-told g past actor (Call command reply) later = call-told g past actor reply command later
after-told g past actor (Served file digest) later = refl
after-told g past actor (Shut file) later = refl
after-told g past actor (Claim worker made) later = refl
after-told g past actor (Done worker made) later = refl
after-told g past actor (Back made) later = refl
after-told g past actor (Lose worker) later = refl
after-told g past actor (Free file) later = refl
after-told g past actor (Drop worker file) later = refl
after-told g past actor (Load worker file) later = refl
after-told g past actor (Save file) later = refl
after-told g past actor (Saved file size digest) later = refl
after-told g past actor (Unsave file) later = refl
after-told g past actor (Collect made) later = refl

-- what is owed by lawfulness
pub owed-told : {T U : Type 0} (g : T → U) (events : List (Event T)) → owed lawful_judge (events_with g events) ≡ owed lawful_judge events
owed-told g [] = refl
owed-told g (e ∷ events) =
    ap (λ (p : Past). owed_after p e.actor (act_with g e.act) Nothing) (plain-told g events)
    ∙ after-told g (without_tickets events) e.actor e.act Nothing

pub nothing-owed : (o : Owed) → owes_nothing o ≡ true → o ≡ Nothing
nothing-owed Nothing h = refl
nothing-owed _ h = absurd (cc)
