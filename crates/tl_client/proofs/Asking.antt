-- A call that makes no file and reads none leaves what everybody has under way.
use Rattle.std.proofs.Common.{◌≡◌, ℕ, Bool, true, false, if◌then◌else◌, List, ◌∷◌, Option, Some, None, refl, ap, ◌∙◌, subst, sym}
use Rattle.tl_types.specs.Same.{actor_same}
use Rattle.tl_types.specs.declared.actor.Actor.{Actor}
use Rattle.tl_types.specs.declared.file_id.FileId.{FileId}
use Rattle.tl_model.specs.declared.command.Command.{Command}
use Rattle.tl_model.specs.declared.command.Command.TheVariants.{Put, Job, Read, Delete, Mkdir, Rename, Pin, Unpin, List as list, Stat, Free as free}
use Rattle.tl_model.specs.declared.reply.Reply.{Reply}
use Rattle.tl_model.specs.declared.reply.Reply.TheVariants.{Made, Fine, Opened, Listed, Stated, Exists, NoSuch, NotFile, NotDir, NotEmpty, TooDeep, IntoItself, TooMany}
use Rattle.tl_model.specs.Past.{Past, command_with, without_tickets}
use Rattle.tl_model.specs.Actors.{OpenRead, open_read, open_claim, open_save, read_after_call}
use Rattle.tl_core.specs.Called.{PutBytes, MadePut, after_call, bytes_put, freed, made_of, with_freed, with_saved}
use Rattle.tl_client.specs.Pieces.{Events, call_event}
use Rattle.tl_client.specs.Rest.{IsAtRest, SameOpen, may_open}

same-either : {A : Type 0} (b : Bool) (a : A) → (if b then a else a) ≡ a
same-either true a = refl
same-either false a = refl

makes-none : (reply : Reply) → made_of reply None ≡ None
makes-none (Made made) = refl
makes-none Fine = refl
makes-none (Opened g) = refl
makes-none (Listed entries) = refl
makes-none (Stated s) = refl
makes-none Exists = refl
makes-none NoSuch = refl
makes-none NotFile = refl
makes-none NotDir = refl
makes-none NotEmpty = refl
makes-none TooDeep = refl
makes-none IntoItself = refl
makes-none TooMany = refl

read-stays : (reply : Reply) (command : Command (List ℕ)) (o : Option OpenRead) → may_open command ≡ false →
    read_after_call reply (command_with {U = Unit {0}} (λ _. tt) command) o ≡ o
read-stays (Made made) command o h = refl
read-stays Fine command o h = refl
read-stays (Opened g) (Put path len digest bytes) o h = refl
read-stays (Opened g) (Job core prio inputs outputs) o h = refl
read-stays (Opened g) (Read path prio form) o h = absurd (cc)
read-stays (Opened g) (Delete path) o h = refl
read-stays (Opened g) (Mkdir path) o h = refl
read-stays (Opened g) (Rename from to) o h = refl
read-stays (Opened g) (Pin path) o h = refl
read-stays (Opened g) (Unpin path) o h = refl
read-stays (Opened g) (list path) o h = refl
read-stays (Opened g) (Stat path) o h = refl
read-stays (Opened g) (free path) o h = refl
read-stays (Listed entries) command o h = refl
read-stays (Stated s) command o h = refl
read-stays Exists command o h = refl
read-stays NoSuch command o h = refl
read-stays NotFile command o h = refl
read-stays NotDir command o h = refl
read-stays NotEmpty command o h = refl
read-stays TooDeep command o h = refl
read-stays IntoItself command o h = refl
read-stays TooMany command o h = refl

-- what an actor has under way is as it was
record IsAsBefore (before after : Past) (a : Actor) : Type 0 where
  pub read : open_read after a ≡ open_read before a
  pub claim : open_claim after a ≡ open_claim before a
  pub save : open_save after a ≡ open_save before a

call-as-before : (actor a : Actor) (command : Command (List ℕ)) (reply : Reply) (events : Events) → may_open command ≡ false →
    IsAsBefore (without_tickets events) (without_tickets (call_event actor command reply ∷ events)) a
call-as-before actor a command reply events no_read =
    let past : Past = without_tickets events in
    let b : Bool = actor_same a actor in
    record {
      read = ap (λ o. if b then o else open_read past a) (read-stays reply command (open_read past a) no_read) ∙ same-either b (open_read past a);
      claim = same-either b (open_claim past a);
      save = same-either b (open_save past a);
    }

as-before : (actor a : Actor) (command : Command (List ℕ)) (reply : Reply) (out : Option FileId) (events : Events) → may_open command ≡ false →
    IsAsBefore (without_tickets events) (without_tickets (with_freed actor out (call_event actor command reply ∷ events))) a
as-before actor a command reply None events no_read = call-as-before actor a command reply events no_read
as-before actor a command reply (Some f) events no_read =
    let b : Bool = actor_same a actor in
    let before = call-as-before actor a command reply events no_read in
    record {
      read = same-either b _ ∙ before.read;
      claim = same-either b _ ∙ before.claim;
      save = same-either b _ ∙ before.save;
    }

called-as-before : (actor a : Actor) (command : Command (List ℕ)) (reply : Reply) (events after : Events) → may_open command ≡ false → bytes_put command ≡ None →
    after ≡ after_call actor command reply events → IsAsBefore (without_tickets events) (without_tickets after) a
called-as-before actor a command reply events after no_read no_put is =
    let out : Option FileId = freed events command in
    let none : made_of reply (bytes_put command) ≡ None = ap (made_of reply) no_put ∙ makes-none reply in
    let plain : after ≡ with_freed actor out (call_event actor command reply ∷ events) =
    is ∙ ap (λ (put : Option MadePut). with_freed actor out (with_saved actor put (call_event actor command reply ∷ events))) none in
    subst (λ (es : Events). IsAsBefore (without_tickets events) (without_tickets es) a) (sym plain) (as-before actor a command reply out events no_read)

-- nobody's reads and saves have changed
pub called-same : (actor : Actor) (command : Command (List ℕ)) (reply : Reply) (events after : Events) → may_open command ≡ false → bytes_put command ≡ None →
    after ≡ after_call actor command reply events → SameOpen (without_tickets events) (without_tickets after)
called-same actor command reply events after no_read no_put is = (
  λ a. (called-as-before actor a command reply events after no_read no_put is).read,
  λ a. (called-as-before actor a command reply events after no_read no_put is).save,
)

-- who was at rest still is
pub called-rest : (actor : Actor) (command : Command (List ℕ)) (reply : Reply) (events after : Events) → may_open command ≡ false → bytes_put command ≡ None →
    after ≡ after_call actor command reply events → IsAtRest (without_tickets events) actor → IsAtRest (without_tickets after) actor
called-rest actor command reply events after no_read no_put is rest =
    let mine = called-as-before actor actor command reply events after no_read no_put is in (
      mine.read ∙ rest.0,
      (mine.save ∙ rest.1.0, λ a. (called-as-before actor a command reply events after no_read no_put is).claim ∙ rest.1.1 a),
    )
