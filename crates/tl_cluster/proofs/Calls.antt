-- The main event of a call keeps the parts in step.
use Rattle.std.proofs.Common.{◌≡◌, ℕ, ◌+◌, ◌<◌, ◌≤◌, ◌==◌, Bool, true, false, ◌&&◌, ◌||◌, if◌then◌else◌, List, [], ◌∷◌, ◌++◌, length, slice_get, Option, Some, None, is_some, unwrap_or, refl, sym, ap, ◌∙◌, subst, arith, length-append}
use Rattle.std.specs.List.{AllByRecursion}
use Rattle.std.specs.Option.{option_and_then}
use Rattle.std.proofs.lemmas.Bool.{and_from, and_parts, lt-ltb}
use Rattle.std.proofs.lemmas.Bool.Decides.{Decides-eqb}
use Rattle.std.proofs.lemmas.Slice.Eq.{bytes_eq-Decides}
use Rattle.sha2.specs.Sha256.{sha256}
use Rattle.tl_types.specs.Block.{FileOutcome}
use Rattle.tl_types.specs.Outcome.{outcome_size, digest_of}
use Rattle.tl_types.specs.Same.{actor_same, actor_same-Decides, file_same, file_same-Decides, digest_same, digest_same-Decides}
use Rattle.tl_types.specs.declared.actor.Actor.{Actor}
use Rattle.tl_types.specs.declared.digest.Digest.{Digest}
use Rattle.tl_types.specs.declared.file_id.FileId.{FileId}
use Rattle.tl_types.specs.declared.record_id.RecordId.{RecordId}
use Rattle.tl_types.specs.declared.worker_id.WorkerId.{WorkerId}
use Rattle.tl_types.specs.declared.outcome.Outcome.{Outcome}
use Rattle.tl_types.specs.declared.outcome.Outcome.TheVariants.{Value}
use Rattle.tl_model.specs.declared.command.Command.{Command}
use Rattle.tl_model.specs.declared.command.Command.TheVariants.{Put, Free as free}
use Rattle.tl_model.specs.declared.reply.Reply.{Reply}
use Rattle.tl_model.specs.declared.reply.Reply.TheVariants.{Made, Fine}
use Rattle.tl_model.specs.declared.event.Act.TheVariants.{Call, Saved}
use Rattle.tl_model.specs.declared.event.Event.{Event}
use Rattle.tl_model.specs.declared.record.Record.{Record}
use Rattle.tl_model.specs.declared.record.Record.TheVariants as kind
use Rattle.tl_model.specs.declared.saved.Saved.{Saved as Keeping}
use Rattle.tl_model.specs.declared.saved.Saved.TheVariants.{Held}
use Rattle.tl_model.specs.Past.{Past, command_with, event_with, events_with, without_tickets}
use Rattle.tl_model.specs.Namespace.{PathOf}
use Rattle.tl_model.specs.Replies.{reply_same}
use Rattle.tl_model.specs.History.{calls_of, has_output, names, names_of, records, records_of, record_made, record_at, reply_after}
use Rattle.tl_model.specs.Actors.{OpenClaim, open_claim, open_save, is_idle, saves_file}
use Rattle.tl_model.specs.Residency.{SavedAs, saved_as}
use Rattle.tl_model.specs.Values.{outcomes_of, value, no_outcome}
use Rattle.tl_model.specs.Rules.{Nothing, all_permitted, owed_after_call, is_permitted, lawful_judge, legal_judge, put_as, put_has_its_bytes, put_of, has_digest, has_size_and_digest, digest_is, size_of}
use Rattle.tl_laws.proofs.Permits.{client-known, holds-two, permits}
use Rattle.tl_laws.proofs.Numbering.{get-last, get-within}
use Rattle.tl_laws.proofs.Refusals.{put_made as put-number}
use Rattle.tl_laws.proofs.Tickets.{records-with, reply_after-with}
use Rattle.tl_steps.proofs.Within.{all-within}
use Rattle.tl_fleet.specs.Order.{StandsInOrder, is_made}
use Rattle.tl_fleet.specs.Workers.{found, held_count}
use Rattle.tl_fleet.proofs.Several.{other_stands}
use Rattle.tl_vault.specs.Vault.{Places, has_place, saved_of}
use Rattle.tl_cluster.specs.declared.parts.calling.PutCopy.{PutCopy}
use Rattle.tl_cluster.specs.Called.{IsFitting, MadePut, made_of, put_made, with_saved}
use Rattle.tl_cluster.specs.Calls.{IsCopyOfPut, kept_after}
use Rattle.tl_cluster.specs.Kept.{IsKept, IsSavedFor}
use Rattle.tl_cluster.specs.Room.{under_way}
use Rattle.tl_cluster.specs.Stands.{Agrees, Fits, IsJobAt, IsSound, PartsState, Stands}
use Rattle.tl_cluster.proofs.Carry.{if-none, same_either}
use Rattle.tl_cluster.proofs.Calling.{reply-same, put-stays, sound-made, fitting-plain, record-stays, all-append, value-stays, outcome-count}
use Rattle.tl_cluster.proofs.Count.{under_way-few}
use Rattle.tl_cluster.proofs.Looking.{copy-saved}
use Rattle.tl_cluster.proofs.Steps.{goes-on, lawful-permitted, told-goes-on}

-- an idle client's call that fits was answered as the history determines
pub record IsCall {T : Type 0} (tells : Bool) (content : T → List ℕ) (parts : PartsState T) (actor : Actor) (command : Command T) (reply : Reply) : Type 0 where
  pub stands : Stands tells content parts
  pub is : reply ≡ reply_after (calls_of parts.events) command
  pub client : actor.0 < 8
  pub idle : is_idle (without_tickets parts.events) actor ≡ true
  pub fits : IsFitting command
  pub bytes : tells ≡ true → put_has_its_bytes (command_with content command) ≡ true

-- the checkpoint store keeps what was put, and nothing else changed
pub record Keeps {T : Type 0} (parts : PartsState T) (reply : Reply) (put : Option (PutCopy T)) (vault : Places T) : Type 0 where
  pub kept : (f : FileId) → saved_of f vault ≡ kept_after reply put f (saved_of f parts.vault)
  pub places : (f : FileId) → has_place f vault ≡ has_place f parts.vault

same-reply : {T : Type 0} (events : List (Event T)) (command : Command T) (reply : Reply) → reply ≡ reply_after (calls_of events) command →
    reply_same (reply_after (calls_of events) command) reply ≡ true
same-reply events command reply is = ap (reply_same (reply_after (calls_of events) command)) is ∙ reply-same (reply_after (calls_of events) command)

pub client-there : (actor : Actor) → actor.0 < 8 → actor.0 < 16
client-there actor client = omega arith

pub permitted : {T : Type 0} (tells : Bool) (content : T → List ℕ) (parts : PartsState T) (actor : Actor) (command : Command T) (reply : Reply) →
    IsCall tells content parts actor command reply →
    is_permitted lawful_judge parts.header parts.events (without_tickets parts.events) actor (Call command reply) ≡ true
permitted tells content parts actor command reply c =
    and_from _ _ (and_from _ _ (and_from _ _ (lt-ltb actor.0 8 c.client) c.idle) refl) (same-reply parts.events command reply c.is)

-- where the bytes are told, the events are permitted with the call
pub told-call : {T : Type 0} (tells : Bool) (content : T → List ℕ) (parts : PartsState T) (actor : Actor) (command : Command T) (reply : Reply) →
    IsCall tells content parts actor command reply → tells ≡ true →
    all_permitted (legal_judge parts.header) parts.header (events_with content (record { actor = actor; act = Call command reply } ∷ parts.events)) ≡ true
told-call tells content parts actor command reply c tell =
    told-goes-on tells content parts actor (Call command reply) c.stands (client-there actor c.client) tell
    (and_from _ _ (and_from _ _ (and_from _ _ (lt-ltb actor.0 8 c.client) c.idle) (c.bytes tell))
    (ap (λ (r : Reply). reply_same r reply) (reply_after-with content parts.events command) ∙ same-reply parts.events command reply c.is))

-- ---- what a call leaves of what was known

pub made-within : (past : Past) (f : FileId) → is_made past f ≡ true → f.rec.0 < length (records past)
made-within past f made = within (record_at past f.rec) refl made
  where
    within : (o : Option Record) → record_at past f.rec ≡ o → has_output o f.out ≡ true → f.rec.0 < length (records past)
    within None e h = absurd (cc)
    within (Some r) e h = get-within (records past) f.rec.0 r e

-- a saved file is an accepted record's
pub saved-within : {T : Type 0} (tells : Bool) (content : T → List ℕ) (parts : PartsState T) (f : FileId) → Agrees tells content parts →
    is_some (saved_as (without_tickets parts.events) f) ≡ true → f.rec.0 < length (records (without_tickets parts.events))
saved-within tells content parts f a saved =
    made-within (without_tickets parts.events) f
    ((all-within lawful_judge parts.header parts.events (lawful-permitted parts.header parts.events a.lawful)).saved f saved)

counted : {T : Type 0} (events : List (Event T)) → length (records (without_tickets events)) ≡ length (records_of (calls_of events))
counted events = ap (λ (rs : List Record). length rs) (records-with (λ _. tt) events)

-- the put of a file of an accepted record stays the same
put-same : {T : Type 0} (tells : Bool) (content : T → List ℕ) (parts : PartsState T) (actor : Actor) (command : Command T) (reply : Reply) (f : FileId) →
    IsCall tells content parts actor command reply → f.rec.0 < length (records (without_tickets parts.events)) →
    put_of (record { actor = actor; act = Call command reply } ∷ parts.events) f ≡ put_of parts.events f
put-same tells content parts actor command reply f c known =
    put-stays reply command (names_of (calls_of parts.events)) (length (records_of (calls_of parts.events))) f (put_of parts.events f)
    (same-reply parts.events command reply c.is) (subst (λ (n : ℕ). f.rec.0 < n) (counted parts.events) known)

pub blocks-stay : {T : Type 0} (tells : Bool) (content : T → List ℕ) (parts : PartsState T) (actor : Actor) (command : Command T) (reply : Reply) →
    IsCall tells content parts actor command reply → (f : FileId) (worker : WorkerId) (block : FileOutcome) → found f parts.workers ≡ Some (worker, block) →
    Fits tells content (record { actor = actor; act = Call command reply } ∷ parts.events) block
blocks-stay tells content parts actor command reply c f worker block there =
    let past : Past = without_tickets parts.events in
    let h : Fits tells content parts.events block = c.stands.agrees.blocks f worker block there in
    let more = record_made reply (command_with {U = Unit {0}} (λ _. tt) command) (names past) in
    let known : block.file.rec.0 < length (records past) = h.0 in
    let longer : block.file.rec.0 < length (records past ++ more) = omega (arith, length-append (records past) more) in (
      longer,
      ap (λ o. has_digest o (record { 0 = digest_of block.outcome })) (put-same tells content parts actor command reply block.file c known) ∙ h.1,
      λ tell. h.2 tell ∙ sym (value-stays content parts.events actor command reply block.file known),
    )

pub sound-stays : {T : Type 0} (tells : Bool) (content : T → List ℕ) (parts : PartsState T) (actor : Actor) (command : Command T) (reply : Reply) →
    IsCall tells content parts actor command reply →
    AllByRecursion IsSound (records (without_tickets (record { actor = actor; act = Call command reply } ∷ parts.events)))
sound-stays tells content parts actor command reply c =
    let past : Past = without_tickets parts.events in
    let plain = command_with {U = Unit {0}} (λ _. tt) command in
    all-append IsSound (records past) (record_made reply plain (names past)) c.stands.agrees.sound
    (sound-made reply plain (names past) (length (records past)) (c.is ∙ sym (reply_after-with (λ _. tt) parts.events command))
    (fitting-plain (λ _. tt) command c.fits))

pub jobs-stay : {T : Type 0} (tells : Bool) (content : T → List ℕ) (parts : PartsState T) (actor : Actor) (command : Command T) (reply : Reply) →
    IsCall tells content parts actor command reply → (a : Actor) (claim : OpenClaim) →
    open_claim (without_tickets (record { actor = actor; act = Call command reply } ∷ parts.events)) a ≡ Some claim →
    IsJobAt (without_tickets (record { actor = actor; act = Call command reply } ∷ parts.events)) claim.made
jobs-stay tells content parts actor command reply c a claim e =
    let past : Past = without_tickets parts.events in
    let job = c.stands.agrees.jobs a claim (sym (same_either (actor_same a actor) (open_claim past a)) ∙ e) in
    (job.0, record-stays (records past) (record_made reply (command_with {U = Unit {0}} (λ _. tt) command) (names past)) claim.made.0 job.0 job.1, job.2)

-- the workers' memories stand in order after the call
pub sized-stays : {T : Type 0} (sizes : FileId → ℕ) (parts : PartsState T) (actor : Actor) (command : Command T) (reply : Reply) →
    StandsInOrder sizes parts.header (without_tickets parts.events) parts.workers →
    StandsInOrder sizes parts.header (without_tickets (record { actor = actor; act = Call command reply } ∷ parts.events)) parts.workers
sized-stays sizes parts actor command reply stands =
    other_stands sizes sizes parts.header (without_tickets parts.events) (event_with (λ _. tt) (record { actor = actor; act = Call command reply })) parts.workers
    refl (λ f made. refl) stands

pub told-sized-stays : {T : Type 0} (content : T → List ℕ) (parts : PartsState T) (actor : Actor) (command : Command T) (reply : Reply) →
    StandsInOrder (size_of (events_with content parts.events)) parts.header (without_tickets parts.events) parts.workers →
    StandsInOrder (size_of (events_with content (record { actor = actor; act = Call command reply } ∷ parts.events))) parts.header
    (without_tickets (record { actor = actor; act = Call command reply } ∷ parts.events)) parts.workers
told-sized-stays content parts actor command reply stands =
    let past : Past = without_tickets parts.events in
    other_stands (size_of (events_with content parts.events)) (size_of (events_with content (record { actor = actor; act = Call command reply } ∷ parts.events)))
    parts.header past (event_with (λ _. tt) (record { actor = actor; act = Call command reply })) parts.workers
    refl (λ f made. ap outcome_size (value-stays content parts.events actor command reply f (made-within past f made))) stands

-- what is kept of a file is kept of it while it holds the same
kept-value : {T : Type 0} (tells : Bool) (content : T → List ℕ) (before now : Outcome) (known : Option SavedAs) (saved : Option (Keeping T)) →
    (is_some known ≡ true → now ≡ before) → IsKept tells content before known saved → IsKept tells content now known saved
kept-value tells content before now (Some known) (Some saved) same h = subst (λ (o : Outcome). IsSavedFor tells content known o saved) (sym (same refl)) h
kept-value tells content before now None None same h = h
kept-value tells content before now (Some known) None same h = absurd h
kept-value tells content before now None (Some saved) same h = absurd h

pub kept-stays : {T : Type 0} (tells : Bool) (content : T → List ℕ) (parts : PartsState T) (actor : Actor) (command : Command T) (reply : Reply) (f : FileId) →
    IsCall tells content parts actor command reply →
    IsKept tells content (value (events_with content (record { actor = actor; act = Call command reply } ∷ parts.events)) f)
    (saved_as (without_tickets parts.events) f) (saved_of f parts.vault)
kept-stays tells content parts actor command reply f c =
    let a = c.stands.agrees in
    kept-value tells content (value (events_with content parts.events) f)
    (value (events_with content (record { actor = actor; act = Call command reply } ∷ parts.events)) f)
    (saved_as (without_tickets parts.events) f) (saved_of f parts.vault)
    (λ saved. value-stays content parts.events actor command reply f (saved-within tells content parts f a saved))
    (a.kept f)

some-known : (o : Option SavedAs) (known : SavedAs) → o ≡ Some known → is_some o ≡ true
some-known o known is = ap (λ (k : Option SavedAs). is_some k) is

pub saved-stays : {T : Type 0} (tells : Bool) (content : T → List ℕ) (parts : PartsState T) (actor : Actor) (command : Command T) (reply : Reply) (f : FileId) (known : SavedAs) →
    IsCall tells content parts actor command reply → saved_as (without_tickets parts.events) f ≡ Some known →
    has_size_and_digest (put_of (record { actor = actor; act = Call command reply } ∷ parts.events) f) known.size known.digest ≡ true
saved-stays tells content parts actor command reply f known c is =
    let a = c.stands.agrees in
    ap (λ (o : Option (ℕ × Digest)). has_size_and_digest o known.size known.digest)
    (put-same tells content parts actor command reply f c
    (saved-within tells content parts f a (some-known (saved_as (without_tickets parts.events) f) known is)))
    ∙ a.saved f known is

-- the record of a put stays
pub put-record-stays : {T : Type 0} (tells : Bool) (content : T → List ℕ) (parts : PartsState T) (actor : Actor) (command : Command T) (reply : Reply) (f : FileId) (put : ℕ × Digest) →
    Agrees tells content parts → put_of parts.events f ≡ Some put →
    record_at (without_tickets (record { actor = actor; act = Call command reply } ∷ parts.events)) f.rec ≡ Some (kind.Put f.rec)
put-record-stays tells content parts actor command reply f put a is =
    let past : Past = without_tickets parts.events in
    record-stays (records past) (record_made reply (command_with {U = Unit {0}} (λ _. tt) command) (names past)) f.rec.0 (kind.Put f.rec) (a.puts f put is)

-- ---- a call that is no accepted put

pub called_plain : {T : Type 0} (tells : Bool) (content : T → List ℕ) (parts : PartsState T) (actor : Actor) (command : Command T) (reply : Reply)
    (put : Option (PutCopy T)) (vault : Places T) (room : ℕ) →
    IsCall tells content parts actor command reply → Keeps parts reply put vault →
    owed_after_call (without_tickets parts.events) actor reply command Nothing ≡ Nothing →
    ((f : FileId) (o : Option (ℕ × Digest)) → put_as reply command f o ≡ o) →
    ((f : FileId) (o : Option (Keeping T)) → kept_after reply put f o ≡ o) →
    48 + held_count parts.workers ≤ room →
    Agrees tells content (record parts { events = record { actor = actor; act = Call command reply } ∷ parts.events; spare = room; vault = vault })
called_plain tells content parts actor command reply put vault room c k owes puts keeps enough =
    let past : Past = without_tickets parts.events in
    let a = c.stands.agrees in
    let few : under_way (without_tickets (record { actor = actor; act = Call command reply } ∷ parts.events)) ≤ 48 =
    under_way-few (without_tickets (record { actor = actor; act = Call command reply } ∷ parts.events)) in
    record {
      lawful = goes-on tells content parts actor (Call command reply) c.stands (client-there actor c.client) (permitted tells content parts actor command reply c) owes;
      permitted = told-call tells content parts actor command reply c;
      sized = (a.sized.0, sized-stays a.sized.0 parts actor command reply a.sized.1);
      told_sized = λ tell. told-sized-stays content parts actor command reply (a.told_sized tell);
      blocks = blocks-stay tells content parts actor command reply c;
      losses = a.losses;
      sound = sound-stays tells content parts actor command reply c;
      kept = λ f. subst (λ (o : Option (Keeping _)). IsKept tells content (value (events_with content (record { actor = actor; act = Call command reply } ∷ parts.events)) f)
          (saved_as past f) o) (sym (k.kept f ∙ keeps f (saved_of f parts.vault))) (kept-stays tells content parts actor command reply f c);
      saved = λ f known is. saved-stays tells content parts actor command reply f known c is;
      puts = λ f put is. put-record-stays tells content parts actor command reply f put a (sym (puts f (put_of parts.events f)) ∙ is);
      jobs = jobs-stay tells content parts actor command reply c;
      places = λ b f e. k.places f ∙ a.places b f (sym (same_either (actor_same b actor) (open_save past b)) ∙ e);
      room = omega arith;
    }

-- ---- an accepted put

or-true : (a b : Bool) → b ≡ true → (a || b) ≡ true
or-true true b h = refl
or-true false b h = h

if-true : {A : Type 0} (b : Bool) (x y : A) → b ≡ true → (if b then x else y) ≡ x
if-true true x y h = refl
if-true false x y h = absurd (cc)

new-value : {T : Type 0} (content : T → List ℕ) (events : List (Event T)) (actor : Actor) (path : PathOf) (len : ℕ) (digest : Digest) (ticket : T) (made : RecordId) →
    made.0 ≡ length (records (without_tickets events)) →
    value (events_with content (record { actor = actor; act = Call (Put path len digest ticket) (Made made) } ∷ events)) (record { rec = made; out = 0 }) ≡ Value (content ticket)
new-value content events actor path len digest ticket made is =
    let table = outcomes_of (calls_of (events_with content events)) in
    ap (λ (o : Option (List Outcome)). unwrap_or (option_and_then (λ (outcomes : List Outcome). slice_get outcomes 0) o) no_outcome)
    (get-last table (Value (content ticket) ∷ []) made.0 (is ∙ sym (outcome-count content events)))

-- an accepted put has the number of the next record
pub put-at : {T : Type 0} (events : List (Event T)) (path : PathOf) (len : ℕ) (digest : Digest) (ticket : T) (made : RecordId) →
    Made made ≡ reply_after (calls_of events) (Put path len digest ticket) → made.0 ≡ length (records (without_tickets events))
put-at events path len digest ticket made is =
    ap (λ (r : RecordId). r.0) (put-number (names_of (calls_of events)) (length (records_of (calls_of events))) path len digest ticket made
    (same-reply events (Put path len digest ticket) (Made made) is)) ∙ sym (counted events)

-- a put has the length and the digest of its bytes
put-bytes : (path : PathOf) (len : ℕ) (digest : Digest) (bytes : List ℕ) → put_has_its_bytes (Put path len digest bytes) ≡ true →
    (length bytes ≡ len) × (sha256 bytes ≡ digest.0)
put-bytes path len digest bytes is =
    let parts = and_parts (len == length bytes) (digest_is (Value bytes) digest) is in
    (sym ((Decides-eqb len (length bytes)).0 parts.0), (bytes_eq-Decides (sha256 bytes) digest.0).0 parts.1)

kept-if : {T : Type 0} (tells : Bool) (content : T → List ℕ) (outcome : Outcome) (b : Bool) (new : SavedAs) (saved : Keeping T)
    (known : Option SavedAs) (kept : Option (Keeping T)) →
    (b ≡ true → IsSavedFor tells content new outcome saved) → (b ≡ false → IsKept tells content outcome known kept) →
    IsKept tells content outcome (if b then Some new else known) (if b then Some saved else kept)
kept-if tells content outcome true new saved known kept here there = here refl
kept-if tells content outcome false new saved known kept here there = there refl

saved-if : (b : Bool) (len : ℕ) (digest : Digest) (o : Option SavedAs) (put : Option (ℕ × Digest)) (known : SavedAs) →
    (o ≡ Some known → has_size_and_digest put known.size known.digest ≡ true) →
    (if b then Some (record { size = len; digest = digest }) else o) ≡ Some known →
    has_size_and_digest (if b then Some (len, digest) else put) known.size known.digest ≡ true
saved-if true len digest o put known old is =
    let same : record { size = len; digest = digest } ≡ known = cc in
    subst (λ (k : SavedAs). has_size_and_digest (Some (len, digest)) k.size k.digest ≡ true) same
    (and_from (len == len) (digest_same digest digest) ((Decides-eqb len len).1 refl) ((digest_same-Decides digest digest).1 refl))
saved-if false len digest o put known old is = old is

puts-if : (b : Bool) (new : ℕ × Digest) (o : Option (ℕ × Digest)) (put : ℕ × Digest) (P : Type 0) → (b ≡ true → P) → (o ≡ Some put → P) →
    (if b then Some new else o) ≡ Some put → P
puts-if true new o put P here there is = here refl
puts-if false new o put P here there is = there is

pub called_put : {T : Type 0} (tells : Bool) (content : T → List ℕ) (parts : PartsState T) (actor : Actor) (path : PathOf) (len : ℕ) (digest : Digest) (ticket : T)
    (made : RecordId) (put : PutCopy T) (vault : Places T) (room : ℕ) →
    IsCall tells content parts actor (Put path len digest ticket) (Made made) → IsCopyOfPut content (Put path len digest ticket) (Some put) →
    Keeps parts (Made made) (Some put) vault → 48 + held_count parts.workers ≤ room →
    Agrees tells content (record parts {
      events = record { actor = actor; act = Saved (record { rec = made; out = 0 }) len digest }
          ∷ record { actor = actor; act = Call (Put path len digest ticket) (Made made) } ∷ parts.events;
      spare = room;
      vault = vault;
    })
called_put {T} tells content parts actor path len digest ticket made put vault room c copy k enough =
    let events = parts.events in
    let past : Past = without_tickets events in
    let told = events_with content events in
    let a = c.stands.agrees in
    let f : FileId = record { rec = made; out = 0 } in
    let command : Command T = Put path len digest ticket in
    let e : Event T = record { actor = actor; act = Call command (Made made) } in
    let told_e : Event (List ℕ) = record { actor = actor; act = Call (Put path len digest (content ticket)) (Made made) } in
    let next : Event T = record { actor = actor; act = Saved f len digest } in
    let told_next : Event (List ℕ) = record { actor = actor; act = Saved f len digest } in
    let at : made.0 ≡ length (records past) = put-at events path len digest ticket made c.is in
    let me : actor_same actor actor ≡ true = (actor_same-Decides actor actor).1 refl in
    let it : file_same f f ≡ true = (file_same-Decides f f).1 refl in
    let pay : (actor_same actor actor && file_same f f) ≡ true = and_from _ _ me it in
    let lawful_saves : has_size_and_digest (put_of (e ∷ events) f) len digest ≡ true =
    ap (λ (o : Option (ℕ × Digest)). has_size_and_digest o len digest) (if-true (file_same f f) (Some (len, digest)) (put_of events f) it)
    ∙ and_from _ _ ((Decides-eqb len len).1 refl) ((digest_same-Decides digest digest).1 refl) in
    let val : value (told_e ∷ told) f ≡ Value (content ticket) = new-value content events actor path len digest ticket made at in
    let few : under_way (without_tickets (next ∷ e ∷ events)) ≤ 48 = under_way-few (without_tickets (next ∷ e ∷ events)) in
    record {
      lawful = holds-two lawful_judge parts.header events e next a.lawful (client-known actor c.client)
          (permitted tells content parts actor command (Made made) c) pay (client-known actor c.client)
          (and_from _ _ (or-true (saves_file f (open_save (without_tickets (e ∷ events)) actor)) _ pay) lawful_saves) refl;
      permitted = λ tell.
          let bytes = put-bytes path len digest (content ticket) (c.bytes tell) in
          let size : (size_of (told_e ∷ told) f == len) ≡ true =
          (Decides-eqb (size_of (told_e ∷ told) f) len).1 (ap outcome_size val ∙ bytes.0) in
          let digests : digest_is (value (told_e ∷ told) f) digest ≡ true =
          (bytes_eq-Decides (digest_of (value (told_e ∷ told) f)) digest.0).1 (ap digest_of val ∙ bytes.1) in
          permits (legal_judge parts.header) parts.header (told_e ∷ told) told_next (told-call tells content parts actor command (Made made) c tell) pay
          (client-known actor c.client)
          (and_from _ _ (or-true (saves_file f (open_save (without_tickets (told_e ∷ told)) actor)) _ pay) (and_from _ _ size digests));
      sized = (
        a.sized.0,
        other_stands a.sized.0 a.sized.0 parts.header (without_tickets (e ∷ events)) (event_with (λ _. tt) next) parts.workers refl
            (λ g m. refl) (sized-stays a.sized.0 parts actor command (Made made) a.sized.1),
      );
      told_sized = λ tell. other_stands (size_of (told_e ∷ told)) (size_of (told_next ∷ told_e ∷ told)) parts.header (without_tickets (e ∷ events))
          (event_with (λ _. tt) next) parts.workers refl (λ g m. refl) (told-sized-stays content parts actor command (Made made) (a.told_sized tell));
      blocks = blocks-stay tells content parts actor command (Made made) c;
      losses = a.losses;
      sound = sound-stays tells content parts actor command (Made made) c;
      kept = λ g. subst (λ (o : Option (Keeping _)). IsKept tells content (value (told_next ∷ told_e ∷ told) g) (saved_as (without_tickets (next ∷ e ∷ events)) g) o)
          (sym (k.kept g))
          (kept-if tells content (value (told_e ∷ told) g) (file_same g f) (record { size = len; digest = digest }) (Held put.ticket put.len put.digest)
          (saved_as past g) (saved_of g parts.vault)
          (λ same. subst (λ (h : FileId). IsSavedFor tells content (record { size = len; digest = digest }) (value (told_e ∷ told) h) (Held put.ticket put.len put.digest))
          (sym ((file_same-Decides g f).0 same))
          (copy-saved tells content (record { size = len; digest = digest }) (value (told_e ∷ told) f) (Held ticket len digest) (Held put.ticket put.len put.digest) (
            refl,
            c.fits,
            λ tell. let bytes = put-bytes path len digest (content ticket) (c.bytes tell) in (val, bytes.0, bytes.1),
          ) copy))
          (λ other. kept-stays tells content parts actor command (Made made) g c));
      saved = λ g known is. saved-if (file_same g f) len digest (saved_as past g) (put_of events g) known (a.saved g known) is;
      puts = λ g p is. puts-if (file_same g f) (len, digest) (put_of events g) p
          (record_at (without_tickets (e ∷ events)) g.rec ≡ Some (kind.Put g.rec))
          (λ same. subst (λ (h : FileId). record_at (without_tickets (e ∷ events)) h.rec ≡ Some (kind.Put h.rec)) (sym ((file_same-Decides g f).0 same))
          (get-last (records past) (kind.Put made) made.0 at))
          (λ was. put-record-stays tells content parts actor command (Made made) g p a was) is;
      jobs = λ b claim e'. jobs-stay tells content parts actor command (Made made) c b claim
          (sym (same_either (actor_same b actor) (open_claim (without_tickets (e ∷ events)) b)) ∙ e');
      places = λ b g e'. k.places g ∙ a.places b g (sym (same_either (actor_same b actor) (open_save past b))
          ∙ if-none (actor_same b actor) (open_save (without_tickets (e ∷ events)) b) g e');
      room = omega arith;
    }

-- ---- any call but a free

abbrev pub is_free : {T : Type 0} → Command T → Bool
is_free (free path) = true
is_free _ = false

-- where nothing was put nothing is owed but a free
owes-none : {T : Type 0} (past : Past) (actor : Actor) (reply : Reply) (command : Command T) → put_made reply command ≡ None → is_free command ≡ false →
    owed_after_call past actor reply command Nothing ≡ Nothing
owes-none past actor (Made made) (Put path len digest ticket) none other = absurd (cc)
owes-none past actor Fine (free path) none other = absurd (cc)
owes-none past actor _ _ none other = refl

-- the puts are the same
pub puts-none : {T : Type 0} (reply : Reply) (command : Command T) (f : FileId) (o : Option (ℕ × Digest)) → put_made reply command ≡ None →
    put_as reply command f o ≡ o
puts-none (Made made) (Put path len digest ticket) f o none = absurd (cc)
puts-none _ _ f o none = refl

-- and nothing more is kept
pub keeps-none : {T : Type 0} (content : T → List ℕ) (reply : Reply) (command : Command T) (put : Option (PutCopy T)) (f : FileId) (o : Option (Keeping T)) →
    IsCopyOfPut content command put → put_made reply command ≡ None → kept_after reply put f o ≡ o
keeps-none content (Made made) (Put path len digest ticket) put f o copy none = absurd (cc)
keeps-none content (Made made) _ None f o copy none = refl
keeps-none content (Made made) _ (Some put) f o copy none = absurd copy
keeps-none content _ _ put f o copy none = refl

-- what is not put makes no file
pub made-none : (reply : Reply) → made_of reply None ≡ None
made-none (Made made) = refl
made-none _ = refl

pub called_other : {T : Type 0} (tells : Bool) (content : T → List ℕ) (parts : PartsState T) (actor : Actor) (command : Command T) (reply : Reply)
    (put : Option (PutCopy T)) (vault : Places T) (room : ℕ) →
    IsCall tells content parts actor command reply → IsCopyOfPut content command put → Keeps parts reply put vault →
    owed_after_call (without_tickets parts.events) actor reply command Nothing ≡ Nothing → put_made reply command ≡ None →
    48 + held_count parts.workers ≤ room →
    Agrees tells content (record parts {
      events = with_saved actor (put_made reply command) (record { actor = actor; act = Call command reply } ∷ parts.events);
      spare = room;
      vault = vault;
    })
called_other tells content parts actor command reply put vault room c copy k owes none enough =
    subst (λ o. Agrees tells content (record parts {
      events = with_saved actor o (record { actor = actor; act = Call command reply } ∷ parts.events);
      spare = room;
      vault = vault;
    })) (sym none)
    (called_plain tells content parts actor command reply put vault room c k owes (λ f o. puts-none reply command f o none)
    (λ f o. keeps-none content reply command put f o copy none) enough)

not-made : (m : MadePut) → None ≡ Some m → ⊥
not-made m e = cc

nothing-made : (reply : Reply) (m : MadePut) → made_of reply None ≡ Some m → ⊥
nothing-made reply m e = not-made m (sym (made-none reply) ∙ e)

-- a call that puts something was an accepted put
accepted : {T : Type 0} (tells : Bool) (content : T → List ℕ) (parts : PartsState T) (actor : Actor) (command : Command T) (reply : Reply)
    (put : Option (PutCopy T)) (vault : Places T) (room : ℕ) (m : MadePut) →
    IsCall tells content parts actor command reply → IsCopyOfPut content command put → Keeps parts reply put vault →
    put_made reply command ≡ Some m → 48 + held_count parts.workers ≤ room →
    Agrees tells content (record parts {
      events = with_saved actor (put_made reply command) (record { actor = actor; act = Call command reply } ∷ parts.events);
      spare = room;
      vault = vault;
    })
accepted tells content parts actor (Put path len digest ticket) (Made made) (Some put) vault room m c copy k some enough =
    called_put tells content parts actor path len digest ticket made put vault room c copy k enough
accepted tells content parts actor (Put path len digest ticket) (Made made) None vault room m c copy k some enough = absurd copy
accepted tells content parts actor (Put path len digest ticket) _ put vault room m c copy k some enough = absurd (not-made m some)
accepted tells content parts actor _ reply put vault room m c copy k some enough = absurd (nothing-made reply m some)

pub called : {T : Type 0} (tells : Bool) (content : T → List ℕ) (parts : PartsState T) (actor : Actor) (command : Command T) (reply : Reply)
    (put : Option (PutCopy T)) (vault : Places T) (room : ℕ) →
    IsCall tells content parts actor command reply → IsCopyOfPut content command put → Keeps parts reply put vault →
    is_free command ≡ false → 48 + held_count parts.workers ≤ room →
    Agrees tells content (record parts {
      events = with_saved actor (put_made reply command) (record { actor = actor; act = Call command reply } ∷ parts.events);
      spare = room;
      vault = vault;
    })
called tells content parts actor command reply put vault room c copy k other enough = by-put (put_made reply command) refl
  where
    by-put : (o : Option _) → put_made reply command ≡ o → Agrees tells content (record parts {
      events = with_saved actor (put_made reply command) (record { actor = actor; act = Call command reply } ∷ parts.events);
      spare = room;
      vault = vault;
    })
    by-put None none = called_other tells content parts actor command reply put vault room c copy k
        (owes-none (without_tickets parts.events) actor reply command none other) none enough
    by-put (Some m) some = accepted tells content parts actor command reply put vault room m c copy k some enough
