-- Calls: what stands in the journal of a command, and what is answered.
use Rattle.std.specs.Prelude.{◌≡◌, ℕ, Bool, true, false, List, [], ◌∷◌, ◌++◌, length, map, Result, Ok, Err, if◌then◌else◌}
use Rattle.tl_types.specs.Outcome.{digest_of}
use Rattle.tl_types.specs.declared.actor.Actor.{Actor}
use Rattle.tl_types.specs.declared.digest.Digest.{Digest}
use Rattle.tl_types.specs.declared.file_id.FileId.{FileId}
use Rattle.tl_types.specs.declared.outcome.Outcome.TheVariants.{Value}
use Rattle.tl_model.specs.declared.answer.Answer.{Answer}
use Rattle.tl_model.specs.declared.answer.Answer.TheVariants.{Said}
use Rattle.tl_model.specs.declared.command.Command.{Command}
use Rattle.tl_model.specs.declared.command.Command.TheVariants.{Put, Free as free}
use Rattle.tl_model.specs.declared.event.Act.{Act}
use Rattle.tl_model.specs.declared.event.Act.TheVariants.{Call, Saved, Free}
use Rattle.tl_model.specs.declared.reply.Reply.{Reply}
use Rattle.tl_model.specs.declared.reply.Reply.TheVariants.{Made, Fine, Opened}
use Rattle.tl_model.specs.History.{calls_of, names_of, reply_after}
use Rattle.tl_model.specs.Journal.{call_count}
use Rattle.tl_model.specs.Namespace.{PathOf}
use Rattle.tl_model.specs.Past.{Past, without_tickets}
use Rattle.tl_model.specs.Replies.{walk_to_file}
use Rattle.tl_model.specs.Residency.{is_resident}
use Rattle.tl_pieces.specs.Setting.{Setting, Events, event_by}
use Rattle.tl_pieces.specs.Own.{Adds}

-- the Free of a file that is in a memory
abbrev pub free_of : {T : Type 0} → Past → Result FileId Reply → List (Act T)
free_of past (Ok f) = if is_resident past f then Free f ∷ [] else []
free_of past (Err refusal) = []

-- what follows a call that was answered so after these events: an accepted put's Saved, a done
-- free's Free
abbrev pub followers : {T : Type 0} → Events T → Command T → Reply → List (Act T)
followers at (Put path len digest ticket) (Made made) =
    Saved (record { rec = made; out = 0 }) len digest ∷ []
followers at (free path) Fine =
    free_of (without_tickets at) (walk_to_file (names_of (calls_of at)) path)
followers at _ _ = []

-- the call and what follows it, where it came after these events
abbrev pub call_of : {T : Type 0} → Actor → Command T → Reply → Events T → Events T
call_of actor command reply at =
    map (event_by actor) (followers at command reply ++ Call command reply ∷ [])

-- The actor's command was answered so. The Call stands right after some events, with what follows
-- it; its number in the history and its reply are those that they determine.
pub record IsCalled {T : Type 0} (s : Setting T) (command : Command T) (number : ℕ) (reply : Reply)
    (before after : Events T) : Type 0 where
  pub called_at : Events T
  pub found : Adds s [] before called_at
  pub numbered : number ≡ call_count called_at
  pub replied : reply ≡ reply_after (calls_of called_at) command
  pub called : Adds s [] (call_of s.actor command reply called_at ++ called_at) after

-- the answer is the reply to the command, with its number
abbrev pub IsSaid : {T : Type 0} →
    Setting T → Command T → Events T → Events T → Answer → Type 0
IsSaid s command before after (Said number reply) = IsCalled s command number reply before after
IsSaid s command before after _ = ⊥

-- The text was put at the path, with its length and its digest, under a ticket that tells it.
pub record IsPut {T : Type 0} (s : Setting T) (path : PathOf) (text : List ℕ)
    (before after : Events T) (answer : Answer) : Type 0 where
  pub ticket : T
  pub digest : Digest
  pub told : s.tells ≡ true → s.content ticket ≡ text
  pub of_text : digest.0 ≡ digest_of (Value text)
  pub said : IsSaid s (Put path (length text) digest ticket) before after answer

abbrev pub is_opened : Reply → Bool
is_opened (Opened f) = true
is_opened _ = false

-- the read was refused
abbrev pub IsRefused : {T : Type 0} →
    Setting T → Command T → ℕ → Reply → Events T → Events T → Type 0
IsRefused s command number reply before after =
    (is_opened reply ≡ false) × IsCalled s command number reply before after
