-- The turn of a call: the call with what follows it, and the drops that settle the memories.
use Rattle.std.proofs.Common.{◌≡◌, ℕ, Bool, true, false, if◌then◌else◌, List, ◌∷◌, Option, Some, None, option_map, refl, sym, ap, ◌∙◌, subst}
use Rattle.tl_types.specs.Block.{FileOutcome}
use Rattle.tl_types.specs.Same.{actor_same-Decides, file_same}
use Rattle.tl_types.specs.declared.actor.Actor.{Actor}
use Rattle.tl_types.specs.declared.file_id.FileId.{FileId}
use Rattle.tl_types.specs.declared.worker_id.WorkerId.{WorkerId}
use Rattle.tl_model.specs.declared.command.Command.{Command}
use Rattle.tl_model.specs.declared.reply.Reply.{Reply}
use Rattle.tl_model.specs.declared.event.Act.TheVariants.{Call}
use Rattle.tl_model.specs.declared.event.Event.{Event}
use Rattle.tl_model.specs.Past.{without_tickets}
use Rattle.tl_model.specs.History.{calls_of, reply_after}
use Rattle.tl_model.specs.Journal.{call_count}
use Rattle.tl_model.specs.Rules.{last_actor_is}
use Rattle.tl_fleet.specs.Workers.{found}
use Rattle.tl_fleet.proofs.Found.{freed as found-freed}
use Rattle.tl_cluster.specs.Called.{Called, MadePut, after_call, freed, put_made, with_freed, with_saved, without_file}
use Rattle.tl_cluster.specs.Calls.{HasMoreRoom, IsAnswered, workers_without}
use Rattle.tl_cluster.specs.Stands.{PartsState}
use Rattle.tl_cluster.specs.State.{State, block_found, held}
use Rattle.tl_cluster.specs.Turned.{Settled, Turned}
use Rattle.tl_cluster.proofs.Turning.{state_of, turned}

last-of : {T : Type 0} (actor : Actor) (freed : Option FileId) (put : Option MadePut) (command : Command T) (reply : Reply) (events : List (Event T)) →
    last_actor_is (without_tickets (with_freed actor freed (with_saved actor put (record { actor = actor; act = Call command reply } ∷ events)))) actor ≡ true
last-of actor (Some f) put command reply events = (actor_same-Decides actor actor).1 refl
last-of actor None (Some put) command reply events = (actor_same-Decides actor actor).1 refl
last-of actor None None command reply events = (actor_same-Decides actor actor).1 refl

-- the last event is the actor's
pub last-is : {T : Type 0} (old new : PartsState T) (actor : Actor) (command : Command T) (answer : ℕ × Reply) → IsAnswered old new actor command answer →
    last_actor_is (without_tickets new.events) actor ≡ true
last-is old new actor command answer a =
    subst (λ (events : List (Event _)). last_actor_is (without_tickets events) actor ≡ true) (sym a.events)
    (last-of actor (freed old.events command) (put_made answer.1 command) command answer.1 old.events)

map-if : (b : Bool) (o : Option (WorkerId × FileOutcome)) → option_map block_found (if b then None else o) ≡ (if b then None else option_map block_found o)
map-if true o = refl
map-if false o = refl

-- what is held once a file was freed
held-without : {T : Type 0} (freed : Option FileId) (state : State T) (f : FileId) → held f (workers_without freed state.workers) ≡ without_file freed state f
held-without None state f = refl
held-without (Some g) state f = ap (option_map block_found) (found-freed f g state.workers) ∙ map-if (file_same f g) (found f state.workers)

-- drops make a turn of it
pub called-turn : {T : Type 0} (old main new : PartsState T) (actor : Actor) (command : Command T) (answer : ℕ × Reply) →
    IsAnswered old main actor command answer → Settled actor main new → Called (state_of old) (state_of new) actor command answer
called-turn old main new actor command answer a s =
    let blocks : FileId → Option FileOutcome = without_file (freed old.events command) (state_of old) in (
      a.number,
      a.reply,
      subst (λ (events : List (Event _)). Turned actor (state_of old) events blocks (state_of new)) a.events
          (turned actor old main new blocks a.header
          (λ f. ap (held f) a.workers ∙ held-without (freed old.events command) (state_of old) f) s),
    )

-- more room before it changes nothing of it
pub answered-before : {T : Type 0} (tells : Bool) (content : T → List ℕ) (old mid new : PartsState T) (actor : Actor) (command : Command T) (answer : ℕ × Reply) →
    HasMoreRoom tells content old mid → IsAnswered mid new actor command answer → IsAnswered old new actor command answer
answered-before tells content old mid new actor command answer m a = record {
  number = a.number ∙ ap call_count m.events;
  reply = a.reply ∙ ap (λ (events : List (Event _)). reply_after (calls_of events) command) m.events;
  header = a.header ∙ m.header;
  events = a.events ∙ ap (after_call actor command answer.1) m.events;
  workers = a.workers ∙ ap (λ (events : List (Event _)). workers_without (freed events command) mid.workers) m.events
      ∙ ap (workers_without (freed old.events command)) m.workers;
}
