-- A read that waits goes on.
use Rattle.std.proofs.Common.{◌≡◌, ℕ, ◌<◌, true, false, if◌then◌else◌, List, ◌∷◌, length, Option, Some, None, is_some, refl, sym, ap, ◌∙◌, subst}
use Rattle.std.specs.List.{list_any}
use Rattle.tl_types.specs.Same.{actor_same, actor_same-Decides}
use Rattle.tl_types.specs.declared.actor.Actor.{Actor}
use Rattle.tl_types.specs.declared.file_id.FileId.{FileId}
use Rattle.tl_types.specs.declared.record_id.RecordId.{RecordId}
use Rattle.tl_types.specs.declared.worker_id.WorkerId.{WorkerId}
use Rattle.tl_model.specs.declared.command.Command.{Command}
use Rattle.tl_model.specs.declared.command.Command.TheVariants.{Read}
use Rattle.tl_model.specs.declared.command.Form.{Form}
use Rattle.tl_model.specs.declared.reply.Reply.{Reply}
use Rattle.tl_model.specs.declared.reply.Reply.TheVariants.{Opened}
use Rattle.tl_model.specs.Past.{Past, without_tickets}
use Rattle.tl_model.specs.Actors.{OpenRead, open_read, claims_record, actors, is_running}
use Rattle.tl_model.specs.Residency.{is_available}
use Rattle.tl_model.specs.Tables.{chosen}
use Rattle.tl_model.specs.Plan.{next, tasks}
use Rattle.tl_model.specs.Rules.{is_lawful}
use Rattle.tl_laws_progress.proofs.OpenReads.{waiting-read-has-next, next-leaves-fewer}
use Rattle.tl_core.specs.Called.{after_call}
use Rattle.tl_core.specs.Answers.{past_of}
use Rattle.tl_core.specs.State.{State}
use Rattle.tl_client.specs.Pieces.{Events, with_run}
use Rattle.tl_client.specs.Rest.{NothingRuns}

pub nothing-is-running : (past : Past) (actor : Actor) → NothingRuns past actor → (made : RecordId) → is_running past made ≡ false
nothing-is-running past actor rest made = λ i. list_any (λ a. claims_record made (rest.1 a i)) actors

-- the read of the actor that makes a call
own-read : (past : Past) (actor : Actor) (new : Option OpenRead) → (if actor_same actor actor then new else open_read past actor) ≡ new
own-read past actor new = ap (λ b. if b then new else open_read past actor) ((actor_same-Decides actor actor).1 refl)

-- a read that the namespace opened is open on its file
pub opened-read : (events after : Events) (actor : Actor) (path : List (List ℕ)) (prio : ℕ) (form : Form) (reply : Reply) (f : FileId) → reply ≡ Opened f →
    after ≡ after_call {T = List ℕ} actor (Read path prio form) reply events →
    (read : OpenRead) × (open_read (without_tickets after) actor ≡ Some read) × (read.file ≡ f)
opened-read events after actor path prio form reply f is made =
    let command : Command (List ℕ) = Read path prio form in
    let opened : OpenRead = record { file = f; prio = prio } in (
      opened,
      ap (λ (es : Events). open_read (without_tickets es) actor) made
          ∙ ap (λ (r : Reply). open_read (without_tickets (after_call actor command r events)) actor) is
          ∙ own-read (without_tickets events) actor (Some opened),
      refl,
    )

no-next : (o : Option RecordId) → o ≡ None → is_some o ≡ true → ⊥
no-next None e h = absurd (cc)
no-next (Some made) e h = absurd (cc)

-- a read that waits where nothing runs is never stuck
pub never-stuck : (state : State (List ℕ)) (actor : Actor) (read : OpenRead) → is_lawful state.header state.events ≡ true → NothingRuns (past_of state) actor →
    open_read (past_of state) actor ≡ Some read → is_available (past_of state) read.file ≡ false → next state.header.order (past_of state) ≡ None → ⊥
never-stuck state actor read lawful rest is missing none =
    let some : is_some (next state.header.order (past_of state)) ≡ true =
    waiting-read-has-next state.header state.events lawful (nothing-is-running (past_of state) actor rest) actor read is missing in
    no-next (next state.header.order (past_of state)) none some

-- running what is next leaves fewer tasks
pub fewer-tasks : (state : State (List ℕ)) (after : Events) (actor : Actor) (worker : WorkerId) (made : RecordId) → is_lawful state.header state.events ≡ true →
    NothingRuns (past_of state) actor → next state.header.order (past_of state) ≡ Some made → after ≡ with_run actor worker made state.events →
    length (chosen (tasks (without_tickets after))) < length (chosen (tasks (past_of state)))
fewer-tasks state after actor worker made lawful rest is ran =
    subst (λ (es : Events). length (chosen (tasks (without_tickets es))) < length (chosen (tasks (past_of state)))) (sym ran)
    (next-leaves-fewer state.header state.events lawful (nothing-is-running (past_of state) actor rest) actor worker made is)
