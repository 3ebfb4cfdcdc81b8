-- What one event that is permitted leaves of a past: what was saved and done stays so, old files get no new name, who reads, reads
-- what was named, and who runs was a task.
use Rattle.std.proofs.Common.{◌≡◌, ◌<◌, inl, inr, Bool, true, false, ◌&&◌, ◌||◌, if◌then◌else◌, List, [], ◌∷◌, ◌++◌, length, Option, Some, None, option_map, refl, sym, ap, ◌∙◌, subst, append-nil}
use Rattle.std.specs.List.{AllByRecursion, list_any}
use Rattle.std.proofs.lemmas.Bool.{and_parts, or_left, or_right, or_cases}
use Rattle.tl_types.specs.Same.{actor_same, record_same, record_same-Decides, file_same-Decides}
use Rattle.tl_types.specs.declared.actor.Actor.{Actor}
use Rattle.tl_types.specs.declared.file_id.FileId.{FileId}
use Rattle.tl_types.specs.declared.record_id.RecordId.{RecordId}
use Rattle.tl_types.specs.declared.worker_id.WorkerId.{WorkerId}
use Rattle.tl_model.specs.declared.command.Command.{Command}
use Rattle.tl_model.specs.declared.command.Command.TheVariants.{Read}
use Rattle.tl_model.specs.declared.reply.Reply.{Reply}
use Rattle.tl_model.specs.declared.reply.Reply.TheVariants.{Opened}
use Rattle.tl_model.specs.declared.record.Record.{Record}
use Rattle.tl_model.specs.declared.header.Header.{Header}
use Rattle.tl_model.specs.declared.header.OrderRule.{OrderRule}
use Rattle.tl_model.specs.declared.event.Act.{Act}
use Rattle.tl_model.specs.declared.event.Act.TheVariants.{Call, Served, Shut, Claim, Done, Back, Lose, Free, Drop, Load, Save, Saved, Unsave, Collect}
use Rattle.tl_model.specs.declared.event.Event.{Event}
use Rattle.tl_model.specs.Past.{Past, act_with, command_with, without_tickets}
use Rattle.tl_model.specs.Tables.{first_by}
use Rattle.tl_model.specs.Replies.{reply_to, reply_same}
use Rattle.tl_model.specs.History.{HistoryOf, calls_of, with_call, names_of, records_of, names, records, record_made, id_of, inputs_of, is_named, is_file_node}
use Rattle.tl_model.specs.Actors.{OpenRead, OpenClaim, open_read, open_claim, read_after, read_after_call, claim_after, claim_after_loss, is_on, actors, reads_file, claims_record, is_read, is_running}
use Rattle.tl_model.specs.Residency.{saved_as, is_saved, does, was_done, all_available}
use Rattle.tl_model.specs.Plan.{is_task, can_run, ready, next}
use Rattle.tl_model.specs.Rules.{Judge, all_permitted, is_permitted, is_known_worker, may_claim, is_record}
use Rattle.tl_laws.proofs.Order.{all-passes, first-holds}
use Rattle.tl_laws.proofs.Tickets.{reply_to-with}
use Rattle.tl_laws.proofs.Saves.{saved-stays, permitted-reply}
use Rattle.tl_laws.proofs.Next.{goes_before, next-first}
use Rattle.tl_laws_needs.proofs.Sound.{permitted-last}
use Rattle.tl_laws_needs.proofs.Named.{named-before, new-inputs-named, opened-is-named}

pub record IsNext (past ahead : Past) : Type 0 where
  pub saved : (f : FileId) → is_saved past f ≡ true → is_saved ahead f ≡ true
  pub done : (made : RecordId) → was_done past made ≡ true → was_done ahead made ≡ true
  pub named : (f : FileId) → f.rec.0 < length (records past) → is_named ahead f ≡ true → is_named past f ≡ true
  pub read : (f : FileId) → is_read ahead f ≡ true → (is_named past f || is_read past f) ≡ true
  pub running : (made : RecordId) → is_running ahead made ≡ true → (is_task past made || is_running past made) ≡ true
  -- the records that are new, whose inputs were named
  pub more : List Record
  pub added : records ahead ≡ records past ++ more
  pub inputs : AllByRecursion (λ r. AllByRecursion (λ f. is_named past f ≡ true) (inputs_of r)) more

-- ---- over all actors

or-any : {A : Type 0} (p q : A → Bool) (c : Bool) (xs : List A) → ((x : A) → p x ≡ true → (c || q x) ≡ true) → list_any p xs ≡ true → (c || list_any q xs) ≡ true
or-any p q c [] each is = absurd (cc)
or-any p q c (x ∷ xs) each is = elim (or_cases (p x) (list_any p xs) is) [
  | inl here ↦ elim (or_cases c (q x) (each x here)) [
    | inl h ↦ or_left c (list_any q (x ∷ xs)) h
    | inr h ↦ or_right c (list_any q (x ∷ xs)) (or_left (q x) (list_any q xs) h)
  ]
  | inr later ↦ elim (or_cases c (list_any q xs) (or-any p q c xs each later)) [
    | inl h ↦ or_left c (list_any q (x ∷ xs)) h
    | inr h ↦ or_right c (list_any q (x ∷ xs)) (or_right (q x) (list_any q xs) h)
  ]
]

-- ---- reads

abbrev pub is_call : Act (Unit {0}) → Bool
is_call (Call command reply) = true
is_call _ = false

read-kept : (act : Act (Unit {0})) (f : FileId) (o : Option OpenRead) → is_call act ≡ false → reads_file f (read_after act o) ≡ true → reads_file f o ≡ true
read-kept (Call command reply) f o e h = absurd (cc)
read-kept (Served g digest) f o e h = absurd (cc)
read-kept (Shut g) f o e h = absurd (cc)
read-kept act f o e h = h

read-called : (reply : Reply) (command : Command (Unit {0})) (past : Past) (f : FileId) (o : Option OpenRead) →
    reply_same (reply_to (names past) (length (records past)) command) reply ≡ true → reads_file f (read_after_call reply command o) ≡ true →
    (is_named past f || reads_file f o) ≡ true
read-called (Opened g) (Read path prio form) past f o same h =
    let it : f ≡ g = (file_same-Decides f g).0 h in
    or_left (is_named past f) (reads_file f o) (rw it (opened-is-named (Unit {0}) (names past) (length (records past)) path prio form g same))
read-called (Opened g) command past f o same h = or_right (is_named past f) (reads_file f o) h
read-called reply command past f o same h = or_right (is_named past f) (reads_file f o) h

by-actor : {A : Type 0} (test : A → Bool) (c b : Bool) (new old : A) → (test new ≡ true → (c || test old) ≡ true) → test (if b then new else old) ≡ true → (c || test old) ≡ true
by-actor test c true new old go h = go h
by-actor test c false new old go h = or_right c (test old) h

-- who reads after an event read before it, or reads what was named
reads-next : (past : Past) (actor : Actor) (act : Act (Unit {0})) (f : FileId) →
    ((o : Option OpenRead) → reads_file f (read_after act o) ≡ true → (is_named past f || reads_file f o) ≡ true) →
    is_read (record { actor = actor; act = act } ∷ past) f ≡ true → (is_named past f || is_read past f) ≡ true
reads-next past actor act f go h =
    or-any (λ a. reads_file f (open_read (record { actor = actor; act = act } ∷ past) a)) (λ a. reads_file f (open_read past a)) (is_named past f) actors
    (λ a k. by-actor (reads_file f) (is_named past f) (actor_same a actor) (read_after act (open_read past a)) (open_read past a) (go (open_read past a)) k) h

-- ---- claims

claim-lost : (made : RecordId) (b : Bool) (o : Option OpenClaim) → claims_record made (if b then None else o) ≡ true → claims_record made o ≡ true
claim-lost made true o h = absurd (cc)
claim-lost made false o h = h

abbrev pub claim_next : Bool → Act (Unit {0}) → Option OpenClaim → Option OpenClaim
claim_next b act o = claim_after_loss act (if b then claim_after act o else o)

claim-kept : (b : Bool) (act : Act (Unit {0})) (made : RecordId) (o : Option OpenClaim) (c : Bool) →
    ((worker : WorkerId) (other : RecordId) → act ≡ Claim worker other → record_same made other ≡ true → c ≡ true) →
    claims_record made (claim_next b act o) ≡ true → (c || claims_record made o) ≡ true
claim-kept true (Claim worker other) made o c new h = or_left c (claims_record made o) (new worker other refl h)
claim-kept true (Done worker other) made o c new h = absurd (cc)
claim-kept true (Back other) made o c new h = absurd (cc)
claim-kept true (Lose worker) made o c new h = or_right c (claims_record made o) (claim-lost made (is_on worker o) o h)
claim-kept false (Lose worker) made o c new h = or_right c (claims_record made o) (claim-lost made (is_on worker o) o h)
claim-kept true act made o c new h = or_right c (claims_record made o) h
claim-kept false act made o c new h = or_right c (claims_record made o) h

-- who runs after an event ran before it, or is what the event claims
running-next : (past : Past) (actor : Actor) (act : Act (Unit {0})) (made : RecordId) →
    ((worker : WorkerId) (other : RecordId) → act ≡ Claim worker other → record_same made other ≡ true → is_task past made ≡ true) →
    is_running (record { actor = actor; act = act } ∷ past) made ≡ true → (is_task past made || is_running past made) ≡ true
running-next past actor act made new h =
    or-any (λ a. claims_record made (open_claim (record { actor = actor; act = act } ∷ past) a)) (λ a. claims_record made (open_claim past a)) (is_task past made) actors
    (λ a k. claim-kept (actor_same a actor) act made (open_claim past a) (is_task past made) new k) h

-- ---- what is next is a task

chosen-is : (past : Past) (made : RecordId) (o : Option Record) → ((s : Record) → o ≡ Some s → can_run past s ≡ true) → is_record (option_map id_of o) made ≡ true →
    is_task past made ≡ true
chosen-is past made None each is = absurd (cc)
chosen-is past made (Some s) each is =
    let it : id_of s ≡ made = (record_same-Decides (id_of s) made).0 is in
    let can = and_parts _ (all_available past (inputs_of s)) (each s refl) in
    ap (is_task past) (sym it) ∙ (and_parts (is_task past (id_of s)) _ can.0).0

next-is-task : (order : OrderRule) (past : Past) (made : RecordId) → is_record (next order past) made ≡ true → is_task past made ≡ true
next-is-task order past made is =
    chosen-is past made (first_by (goes_before order past) (ready past))
    (λ s e. first-holds (λ r. can_run past r ≡ true) (goes_before order past) (ready past) s (all-passes (can_run past) (records past)) e)
    (ap (λ o. is_record o made) (sym (next-first order past)) ∙ is)

-- ---- events

call-next : (past : Past) (actor : Actor) (reply : Reply) (command : Command (Unit {0})) → reply_same (reply_to (names past) (length (records past)) command) reply ≡ true →
    IsNext past (record { actor = actor; act = Call command reply } ∷ past)
call-next past actor reply command same = record {
  saved = λ f h. h;
  done = λ made h. h;
  named = λ f old is. named-before reply command (names past) (length (records past)) f same old is;
  read = λ f h. reads-next past actor (Call command reply) f (λ o k. read-called reply command past f o same k) h;
  running = λ made h. running-next past actor (Call command reply) made (λ worker other e k. absurd (cc)) h;
  more = record_made reply command (names past);
  added = refl;
  inputs = new-inputs-named reply command (names past);
}

calls-same : (actor : Actor) (act : Act (Unit {0})) (calls : HistoryOf (Unit {0})) → is_call act ≡ false → with_call actor act calls ≡ calls
calls-same actor (Call command reply) calls e = absurd (cc)
calls-same actor act calls e = refl

-- an event that is no call changes no name and adds no record
other-next : (past : Past) (actor : Actor) (act : Act (Unit {0})) → is_call act ≡ false →
    ((made : RecordId) (worker : WorkerId) (other : RecordId) → act ≡ Claim worker other → record_same made other ≡ true → is_task past made ≡ true) →
    IsNext past (record { actor = actor; act = act } ∷ past)
other-next past actor act e new =
    let calls : calls_of (record { actor = actor; act = act } ∷ past) ≡ calls_of past = calls-same actor act (calls_of past) e in
    record {
      saved = λ f h. saved-stays act f (saved_as past f) h;
      done = λ made h. or_right (does made act) (was_done past made) h;
      named = λ f old is. subst (λ ns. list_any (λ entry. is_file_node f entry.1) ns ≡ true) (ap names_of calls) is;
      read = λ f h. reads-next past actor act f (λ o k. or_right (is_named past f) (reads_file f o) (read-kept act f o e k)) h;
      running = λ made h. running-next past actor act made (new made) h;
      more = [];
      added = ap records_of calls ∙ sym (append-nil (records past));
      inputs = tt;
    }

-- an event that its rule permits
permitted-next : {T : Type 0} (judge : Judge T) (header : Header) (events : List (Event T)) (actor : Actor) (act : Act T) →
    is_permitted judge header events (without_tickets events) actor act ≡ true →
    IsNext (without_tickets events) (record { actor = actor; act = act_with {U = Unit {0}} (λ _. tt) act } ∷ without_tickets events)
permitted-next judge header events actor (Call command reply) ok =
    let past : Past = without_tickets events in
    call-next past actor reply (command_with {U = Unit {0}} (λ _. tt) command)
    (ap (λ r. reply_same r reply) (reply_to-with (λ _. tt) (names past) (length (records past)) command) ∙ permitted-reply judge header events actor command reply ok)
permitted-next judge header events actor (Claim worker made) ok =
    let past : Past = without_tickets events in
    let task : is_task past made ≡ true =
    next-is-task header.order past made (and_parts (is_known_worker header worker && may_claim past actor) (is_record (next header.order past) made) ok).1 in
    other-next past actor (Claim worker made) refl
    (λ mine w other e k.
    let it : made ≡ other = cc in
    let same : mine ≡ other = (record_same-Decides mine other).0 k in
    ap (is_task past) (same ∙ sym it) ∙ task)
permitted-next judge header events actor (Served g digest) ok = other-next (without_tickets events) actor (Served g digest) refl (λ made w other e k. absurd (cc))
permitted-next judge header events actor (Shut g) ok = other-next (without_tickets events) actor (Shut g) refl (λ made w other e k. absurd (cc))
permitted-next judge header events actor (Done worker r) ok = other-next (without_tickets events) actor (Done worker r) refl (λ made w other e k. absurd (cc))
permitted-next judge header events actor (Back r) ok = other-next (without_tickets events) actor (Back r) refl (λ made w other e k. absurd (cc))
permitted-next judge header events actor (Lose worker) ok = other-next (without_tickets events) actor (Lose worker) refl (λ made w other e k. absurd (cc))
permitted-next judge header events actor (Free g) ok = other-next (without_tickets events) actor (Free g) refl (λ made w other e k. absurd (cc))
permitted-next judge header events actor (Drop worker g) ok = other-next (without_tickets events) actor (Drop worker g) refl (λ made w other e k. absurd (cc))
permitted-next judge header events actor (Load worker g) ok = other-next (without_tickets events) actor (Load worker g) refl (λ made w other e k. absurd (cc))
permitted-next judge header events actor (Save g) ok = other-next (without_tickets events) actor (Save g) refl (λ made w other e k. absurd (cc))
permitted-next judge header events actor (Saved g size digest) ok = other-next (without_tickets events) actor (Saved g size digest) refl (λ made w other e k. absurd (cc))
permitted-next judge header events actor (Unsave g) ok = other-next (without_tickets events) actor (Unsave g) refl (λ made w other e k. absurd (cc))
permitted-next judge header events actor (Collect r) ok = other-next (without_tickets events) actor (Collect r) refl (λ made w other e k. absurd (cc))

-- the last of some events that are permitted
pub event-next : {T : Type 0} (judge : Judge T) (header : Header) (e : Event T) (events : List (Event T)) → all_permitted judge header (e ∷ events) ≡ true →
    IsNext (without_tickets events) (without_tickets (e ∷ events))
event-next judge header e events ok = permitted-next judge header events e.actor e.act (permitted-last judge header e events ok)
