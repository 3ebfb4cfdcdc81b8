-- The rules: which event may come after a past, what must come, and which journals are lawful and which legal.
use Rattle.std.specs.Prelude.{ℕ, nat_lt, ◌==◌, bytes_eq, Bool, true, false, ◌&&◌, ◌||◌, not, List, [], ◌∷◌, length, Option, Some, None, is_some, is_none, Result, Ok, Err, if◌then◌else◌}
use Rattle.tl_types.specs.Same.{actor_same, file_same, record_same, worker_same, digest_same}
use Rattle.tl_types.specs.Outcome.{outcome_size, digest_of}
use Rattle.tl_types.specs.declared.actor.Actor.{Actor}
use Rattle.tl_types.specs.declared.digest.Digest.{Digest}
use Rattle.tl_types.specs.declared.file_id.FileId.{FileId}
use Rattle.tl_types.specs.declared.record_id.RecordId.{RecordId}
use Rattle.tl_types.specs.declared.worker_id.WorkerId.{WorkerId}
use Rattle.tl_types.specs.declared.outcome.Outcome.{Outcome}
use Rattle.tl_types.specs.declared.outcome.Outcome.TheVariants as outcome
use Rattle.tl_model.specs.declared.command.Command.{Command}
use Rattle.tl_model.specs.declared.command.Command.TheVariants.{Put, Free as free}
use Rattle.tl_model.specs.declared.header.Header.{Header}
use Rattle.tl_model.specs.declared.reply.Reply.{Reply}
use Rattle.tl_model.specs.declared.reply.Reply.TheVariants.{Made, Fine}
use Rattle.tl_model.specs.declared.event.Act.{Act}
use Rattle.tl_model.specs.declared.event.Act.TheVariants.{Call, Served, Shut, Claim, Done, Back, Lose, Free, Drop, Load, Save, Saved, Unsave, Collect}
use Rattle.tl_model.specs.declared.event.Event.{Event}
use Rattle.tl_model.specs.Past.{Past, Told, without_tickets}
use Rattle.tl_model.specs.Replies.{walk_to_file, reply_same}
use Rattle.tl_model.specs.History.{calls_of, names, reply_after}
use Rattle.tl_model.specs.Values.{value}
use Rattle.tl_model.specs.Actors.{OpenClaim, open_read, open_claim, open_save, reads_file, saves_file, claims_record, is_idle}
use Rattle.tl_model.specs.Residency.{is_resident, is_resident_on, is_saved, is_kept}
use Rattle.tl_model.specs.Plan.{next}
use Rattle.tl_model.specs.Eviction.{may_go, victim, first_to_drop}
use Rattle.tl_model.specs.Checkpoints.{next_save}
use Rattle.tl_model.specs.Needs.{is_needed}

abbrev pub is_file : Option FileId → FileId → Bool
is_file None f = false
is_file (Some g) f = file_same g f

abbrev pub is_worker : Option WorkerId → WorkerId → Bool
is_worker None worker = false
is_worker (Some other) worker = worker_same other worker

abbrev pub is_record : Option RecordId → RecordId → Bool
is_record None made = false
is_record (Some other) made = record_same other made

abbrev pub ok_file : Result FileId Reply → Option FileId
ok_file (Ok f) = Some f
ok_file (Err refusal) = None

-- ---- what is known of bytes

-- What a journal is held to where bytes come in. Where they are known, each size and digest is that of the file's
-- outcome; where they are not, that of a put is as the journal itself says of the put.
pub record Judge (T : Type 0) : Type 0 where
  -- a put's length and digest fit its ticket
  pub put_fits : Command T → Bool
  -- a file is served with this digest
  pub serves : List (Event T) → FileId → Digest → Bool
  -- a file is saved with this size and this digest
  pub saves : List (Event T) → FileId → ℕ → Digest → Bool
  -- a file is dropped from a worker
  pub drops : List (Event T) → WorkerId → FileId → Bool
  -- a drop is owed
  pub owes_drop : List (Event T) → Bool

-- a put's length and digest, where the call made the file
abbrev pub put_as : {T : Type 0} → Reply → Command T → FileId → Option (ℕ × Digest) → Option (ℕ × Digest)
put_as (Made made) (Put path len digest ticket) f earlier = if file_same f (record { rec = made; out = 0 }) then Some (len, digest) else earlier
put_as _ _ f earlier = earlier

abbrev pub put_in : {T : Type 0} → Act T → FileId → Option (ℕ × Digest) → Option (ℕ × Digest)
put_in (Call command reply) f earlier = put_as reply command f earlier
put_in _ f earlier = earlier

abbrev pub put_of : {T : Type 0} → List (Event T) → FileId → Option (ℕ × Digest)
put_of [] f = None
put_of (e ∷ past) f = put_in e.act f (put_of past f)

abbrev pub has_digest : Option (ℕ × Digest) → Digest → Bool
has_digest None digest = true
has_digest (Some put) digest = digest_same put.1 digest

abbrev pub has_size_and_digest : Option (ℕ × Digest) → ℕ → Digest → Bool
has_size_and_digest None size digest = true
has_size_and_digest (Some put) size digest = put.0 == size && digest_same put.1 digest

-- resident there, and neither pinned nor wanted
abbrev pub can_drop : Past → WorkerId → FileId → Bool
can_drop past worker f = is_resident_on past f worker && may_go past f

-- nothing is known of bytes but what the journal says of puts
abbrev pub lawful_judge : {T : Type 0} → Judge T
lawful_judge = record {
  put_fits = λ command. true;
  serves = λ past f digest. has_digest (put_of past f) digest;
  saves = λ past f size digest. has_size_and_digest (put_of past f) size digest;
  drops = λ past worker f. can_drop (without_tickets past) worker f;
  owes_drop = λ past. false;
}

abbrev pub size_of : Told → FileId → ℕ
size_of past f = outcome_size (value past f)

abbrev pub digest_is : Outcome → Digest → Bool
digest_is outcome digest = bytes_eq (digest_of outcome) digest.0

abbrev pub put_has_its_bytes : Command (List ℕ) → Bool
put_has_its_bytes (Put path len digest bytes) = len == length bytes && digest_is (outcome.Value bytes) digest
put_has_its_bytes _ = true

-- the least worker that is over its capacity and has a victim, and this victim
abbrev pub is_due : Header → Told → WorkerId → FileId → Bool
is_due header past worker f =
    is_worker (first_to_drop (size_of past) header (without_tickets past)) worker && is_file (victim (without_tickets past) worker) f

-- every ticket tells the bytes that it is for
abbrev pub legal_judge : Header → Judge (List ℕ)
legal_judge header = record {
  put_fits = put_has_its_bytes;
  serves = λ past f digest. digest_is (value past f) digest;
  saves = λ past f size digest. size_of past f == size && digest_is (value past f) digest;
  drops = is_due header;
  owes_drop = λ past. is_some (first_to_drop (size_of past) header (without_tickets past));
}

-- ---- what is owed

-- what must come next, and from whom
pub data Owed : Type 0 where
  Nothing : Owed
  ToSave : Actor → FileId → Owed
  ToFree : Actor → FileId → Owed
  ToServe : Actor → FileId → Owed
  ToDrop : Owed

-- the free of a resident file
abbrev pub owed_free : Past → Actor → Result FileId Reply → Owed → Owed
owed_free past actor (Ok f) later = if is_resident past f then ToFree actor f else later
owed_free past actor (Err refusal) later = later

abbrev pub owed_after_call : {T : Type 0} → Past → Actor → Reply → Command T → Owed → Owed
owed_after_call past actor (Made made) (Put path len digest ticket) later = ToSave actor (record { rec = made; out = 0 })
owed_after_call past actor Fine (free path) later = owed_free past actor (walk_to_file (names past) path) later
owed_after_call past actor _ _ later = later

-- after a put its Saved, after a free of a resident file its Free, after a load its Served, and else what is owed later
abbrev pub owed_after : {T : Type 0} → Past → Actor → Act T → Owed → Owed
owed_after past actor (Call command reply) later = owed_after_call past actor reply command later
owed_after past actor (Load worker f) later = ToServe actor f
owed_after past actor _ later = later

-- a drop comes last, as long as some worker is over its capacity and has a victim
abbrev pub owed : {T : Type 0} → Judge T → List (Event T) → Owed
owed judge [] = Nothing
owed judge (e ∷ past) = owed_after (without_tickets past) e.actor e.act (if judge.owes_drop (e ∷ past) then ToDrop else Nothing)

-- an event is the one that is owed; which drop it is, and with what bytes, its own rule asks
abbrev pub pays : {T : Type 0} → Owed → Actor → Act T → Bool
pays Nothing actor act = true
pays (ToSave owing f) actor (Saved g size digest) = actor_same owing actor && file_same f g
pays (ToSave owing f) actor _ = false
pays (ToFree owing f) actor (Free g) = actor_same owing actor && file_same f g
pays (ToFree owing f) actor _ = false
pays (ToServe owing f) actor (Served g digest) = actor_same owing actor && file_same f g
pays (ToServe owing f) actor _ = false
pays ToDrop actor (Drop worker g) = true
pays ToDrop actor _ = false

-- ---- the fifteen rules

abbrev pub is_client : Actor → Bool
is_client actor = nat_lt actor.0 8

-- actors 0 to 7 are clients, 8 to 15 the crew
abbrev pub is_actor : Actor → Bool
is_actor actor = nat_lt actor.0 16

abbrev pub is_known_worker : Header → WorkerId → Bool
is_known_worker header worker = nat_lt worker.0 header.workers

abbrev pub is_open_on : Option OpenClaim → WorkerId → RecordId → Bool
is_open_on None worker made = false
is_open_on (Some claim) worker made = worker_same claim.worker worker && record_same claim.made made

-- no open claim or save
abbrev pub may_claim : Past → Actor → Bool
may_claim past actor = is_none (open_claim past actor) && is_none (open_save past actor)

abbrev pub last_actor_is : Past → Actor → Bool
last_actor_is [] actor = false
last_actor_is (e ∷ past) actor = actor_same e.actor actor

abbrev pub made_by_put : {T : Type 0} → Reply → Command T → FileId → Bool
made_by_put (Made made) (Put path len digest ticket) f = file_same f (record { rec = made; out = 0 })
made_by_put _ _ f = false

abbrev pub is_put_of : {T : Type 0} → Act T → FileId → Bool
is_put_of (Call command reply) f = made_by_put reply command f
is_put_of _ f = false

-- the event before is the same actor's put that made the file
abbrev pub follows_put : Past → Actor → FileId → Bool
follows_put [] actor f = false
follows_put (e ∷ past) actor f = actor_same e.actor actor && is_put_of e.act f

abbrev pub frees : {T : Type 0} → Past → Reply → Command T → FileId → Bool
frees past Fine (free path) f = is_file (ok_file (walk_to_file (names past) path)) f
frees past _ _ f = false

abbrev pub is_free_of : {T : Type 0} → Past → Act T → FileId → Bool
is_free_of past (Call command reply) f = frees past reply command f
is_free_of past _ f = false

-- the event before is the same actor's free of the file's name, answered as done
abbrev pub follows_free : Past → Actor → FileId → Bool
follows_free [] actor f = false
follows_free (e ∷ past) actor f = actor_same e.actor actor && is_free_of past e.act f

-- the rule of an event's own kind permits it
abbrev pub is_permitted : {T : Type 0} → Judge T → Header → List (Event T) → Past → Actor → Act T → Bool
is_permitted judge header events past actor (Call command reply) =
    is_client actor && is_idle past actor && judge.put_fits command && reply_same (reply_after (calls_of events) command) reply
is_permitted judge header events past actor (Served f digest) = reads_file f (open_read past actor) && is_resident past f && judge.serves events f digest
is_permitted judge header events past actor (Shut f) = reads_file f (open_read past actor)
is_permitted judge header events past actor (Claim worker made) = is_known_worker header worker && may_claim past actor && is_record (next header.order past) made
is_permitted judge header events past actor (Done worker made) = is_open_on (open_claim past actor) worker made
is_permitted judge header events past actor (Back made) = claims_record made (open_claim past actor)
is_permitted judge header events past actor (Lose worker) = is_known_worker header worker
is_permitted judge header events past actor (Free f) = follows_free past actor f && is_resident past f
is_permitted judge header events past actor (Drop worker f) = judge.drops events worker f && last_actor_is past actor
is_permitted judge header events past actor (Load worker f) =
    is_known_worker header worker && reads_file f (open_read past actor) && is_saved past f && not (is_resident past f)
is_permitted judge header events past actor (Save f) = is_idle past actor && is_file (next_save header past) f
is_permitted judge header events past actor (Saved f size digest) =
    (saves_file f (open_save past actor) || follows_put past actor f) && judge.saves events f size digest
is_permitted judge header events past actor (Unsave f) = saves_file f (open_save past actor)
is_permitted judge header events past actor (Collect made) = is_kept past made && not (is_needed past made)

-- the number of an event's own rule
abbrev pub rule_of : {T : Type 0} → Act T → ℕ
rule_of (Call command reply) = 1
rule_of (Served f digest) = 2
rule_of (Shut f) = 3
rule_of (Claim worker made) = 4
rule_of (Done worker made) = 5
rule_of (Back made) = 6
rule_of (Lose worker) = 7
rule_of (Free f) = 8
rule_of (Drop worker f) = 9
rule_of (Load worker f) = 10
rule_of (Save f) = 11
rule_of (Saved f size digest) = 12
rule_of (Unsave f) = 13
rule_of (Collect made) = 14

-- the number of the rule that what is owed comes first
abbrev pub owed_rule : ℕ
owed_rule = 15

-- an actor that there is, and the rule of the event's kind permits it
abbrev pub may_follow : {T : Type 0} → Judge T → Header → List (Event T) → Event T → Bool
may_follow judge header past e =
    is_actor e.actor && is_permitted judge header past (without_tickets past) e.actor e.act

-- the rule that refuses an event after a past: what is owed is asked first
abbrev pub broken : {T : Type 0} → Judge T → Header → List (Event T) → Event T → Option ℕ
broken judge header past e =
    if not (pays (owed judge past) e.actor e.act) then Some owed_rule
    else (if may_follow judge header past e then None else Some (rule_of e.act))

-- ---- journals

abbrev pub owes_nothing : Owed → Bool
owes_nothing Nothing = true
owes_nothing _ = false

-- each event is permitted after those before it
abbrev pub all_permitted : {T : Type 0} → Judge T → Header → List (Event T) → Bool
all_permitted judge header [] = true
all_permitted judge header (e ∷ past) = is_none (broken judge header past e) && all_permitted judge header past

-- nothing is owed
abbrev pub is_quiet : {T : Type 0} → Judge T → List (Event T) → Bool
is_quiet judge past = owes_nothing (owed judge past)

abbrev pub holds : {T : Type 0} → Judge T → Header → List (Event T) → Bool
holds judge header past = all_permitted judge header past && is_quiet judge past

-- each event is permitted by what the journal itself says, and nothing is owed at the end
abbrev pub is_lawful : {T : Type 0} → Header → List (Event T) → Bool
is_lawful header past = holds lawful_judge header past

-- the same where the bytes of each put are known
abbrev pub is_legal : Header → Told → Bool
is_legal header past = holds (legal_judge header) header past

-- the first of two, where there is one
abbrev pub or_first : {A : Type 0} → Option A → Option A → Option A
or_first (Some found) later = Some found
or_first None later = later

abbrev pub at_place : ℕ → Option ℕ → Option (ℕ × ℕ)
at_place place None = None
at_place place (Some rule) = Some (place, rule)

-- the first event that is refused, by its place and the rule that refuses it
abbrev pub first_broken : {T : Type 0} → Judge T → Header → List (Event T) → Option (ℕ × ℕ)
first_broken judge header [] = None
first_broken judge header (e ∷ past) = or_first (first_broken judge header past) (at_place (length past) (broken judge header past e))

abbrev pub end_fault : ℕ → Bool → Option (ℕ × ℕ)
end_fault place quiet = if quiet then None else Some (place, owed_rule)

-- where and by which rule a journal fails: at its first refused event, or at its end for what is owed
abbrev pub fault_of : {T : Type 0} → Judge T → Header → List (Event T) → Option (ℕ × ℕ)
fault_of judge header past = or_first (first_broken judge header past) (end_fault (length past) (is_quiet judge past))
