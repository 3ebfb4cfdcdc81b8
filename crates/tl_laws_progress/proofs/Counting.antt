-- How many records a lawful journal has, and so how many tasks.
use Rattle.std.proofs.Common.{◌≡◌, ℕ, ◌+◌, ◌<◌, ◌≤◌, ◌^◌, nat_le, Bool, true, false, ◌&&◌, if◌then◌else◌, List, [], ◌∷◌, ◌++◌, length, Option, Some, None, is_none, refl, sym, subst, arith, length-append, append-nil}
use Rattle.std.proofs.lemmas.Bool.{and_parts, both_ways, leb-false}
use Rattle.tl_types.specs.declared.actor.Actor.{Actor}
use Rattle.tl_types.specs.declared.record_id.RecordId.{RecordId}
use Rattle.tl_model.specs.declared.command.Command.{Command}
use Rattle.tl_model.specs.declared.command.Command.TheVariants.{Put, Job}
use Rattle.tl_model.specs.declared.reply.Reply.{Reply}
use Rattle.tl_model.specs.declared.reply.Reply.TheVariants.{Made, TooMany}
use Rattle.tl_model.specs.declared.record.Record.{Record}
use Rattle.tl_model.specs.declared.record.Record.TheVariants as kind
use Rattle.tl_model.specs.declared.header.Header.{Header}
use Rattle.tl_model.specs.declared.event.Act.{Act}
use Rattle.tl_model.specs.declared.event.Act.TheVariants.{Call}
use Rattle.tl_model.specs.declared.event.Event.{Event}
use Rattle.tl_model.specs.Namespace.{Names}
use Rattle.tl_model.specs.Past.{Past, without_tickets}
use Rattle.tl_model.specs.Tables.{Table, downward, chosen}
use Rattle.tl_model.specs.Replies.{count_refusal, inputs_refusal, new_refusal, or_else, outputs_refusal, record_limit, reply_same, reply_to, unless}
use Rattle.tl_model.specs.History.{calls_of, names_of, record_made, records, records_of, reply_after, with_call}
use Rattle.tl_model.specs.Actors.{is_idle}
use Rattle.tl_model.specs.Plan.{task_among, tasks}
use Rattle.tl_model.specs.Rules.{Judge, all_permitted, broken, is_client, is_permitted}
use Rattle.tl_laws.proofs.Permits.{permitted_of}
use Rattle.tl_laws.proofs.Refusals.{OnlyRefuses, accepts, inputs-refuse, new_refusal-refuses, or-none, or_else-refuses, outputs-refuse, refuse_where-refuses}
use Rattle.tl_laws.proofs.Tickets.{records-with}

-- ---- records

-- what is answered as Made was accepted
accepted : (reply : Reply) (made : RecordId) → reply_same reply (Made made) ≡ true → accepts reply ≡ true
accepted (Made other) made h = refl
accepted _ made h = absurd (cc)

none-refused : (refusal : Option Reply) (next made : RecordId) → OnlyRefuses refusal → reply_same (unless refusal (Made next)) (Made made) ≡ true → refusal ≡ None
none-refused None next made h same = refl
none-refused (Some reply) next made h same = absurd (both_ways (accepts reply) h (accepted reply made same))

not-many : (b : Bool) → (if b then Some TooMany else None) ≡ None → b ≡ false
not-many true h = absurd (cc)
not-many false h = refl

-- a record that is accepted finds fewer than there may be
count-left : (count : ℕ) → count_refusal count ≡ None → count < record_limit
count-left count h = leb-false record_limit count (not-many (nat_le record_limit count) h)

put-left : {T : Type 0} (names : Names) (count : ℕ) (path : _) (len : ℕ) (digest : _) (ticket : T) (made : RecordId) →
    reply_same (reply_to names count (Put path len digest ticket)) (Made made) ≡ true → count < record_limit
put-left names count path len digest ticket made same =
    let refuses = or_else-refuses (new_refusal names path) (count_refusal count) (new_refusal-refuses names path) (refuse_where-refuses _ TooMany refl) in
    count-left count
    (or-none (new_refusal names path) (count_refusal count)
    (none-refused (or_else (new_refusal names path) (count_refusal count)) (record { 0 = count }) made refuses same)).1

job-left : (T : Type 0) (names : Names) (count : ℕ) (core : _) (prio : ℕ) (inputs outputs : _) (made : RecordId) →
    reply_same (reply_to {T = T} names count (Job core prio inputs outputs)) (Made made) ≡ true → count < record_limit
job-left T names count core prio inputs outputs made same =
    let later = or_else (outputs_refusal names count 0 outputs) (count_refusal count) in
    let refuses = or_else-refuses (inputs_refusal names inputs) later (inputs-refuse names inputs)
    (or_else-refuses (outputs_refusal names count 0 outputs) (count_refusal count) (outputs-refuse names count 0 outputs) (refuse_where-refuses _ TooMany refl)) in
    count-left count
    (or-none (outputs_refusal names count 0 outputs) (count_refusal count)
    (or-none (inputs_refusal names inputs) later
    (none-refused (or_else (inputs_refusal names inputs) later) (record { 0 = count }) made refuses same)).1).1

one-more : (rs : List Record) (new : Record) → length rs < record_limit → length (rs ++ new ∷ []) ≤ record_limit
one-more rs new less = omega (arith, length-append rs (new ∷ []))

call-few : {T : Type 0} (reply : Reply) (command : Command T) (names : Names) (rs : List Record) → length rs ≤ record_limit →
    reply_same (reply_to names (length rs) command) reply ≡ true → length (rs ++ record_made reply command names) ≤ record_limit
call-few (Made made) (Put path len digest ticket) names rs few same = one-more rs (kind.Put made) (put-left names (length rs) path len digest ticket made same)
call-few {T} (Made made) (Job core prio inputs outputs) names rs few same = one-more rs _ (job-left T names (length rs) core prio inputs outputs made same)
call-few reply command names rs few same = subst (λ xs. length xs ≤ record_limit) (sym (append-nil rs)) few

act-few : {T : Type 0} (judge : Judge T) (header : Header) (events : List (Event T)) (past : Past) (actor : Actor) (act : Act T) → length (records_of (calls_of events)) ≤ record_limit →
    is_permitted judge header events past actor act ≡ true → length (records_of (with_call actor act (calls_of events))) ≤ record_limit
act-few judge header events past actor (Call command reply) few ok =
    call-few reply command (names_of (calls_of events)) (records_of (calls_of events)) few
    (and_parts (is_client actor && is_idle past actor && judge.put_fits command) (reply_same (reply_after (calls_of events) command) reply) ok).1
act-few judge header events past actor act few ok = few

records-few : {T : Type 0} (judge : Judge T) (header : Header) (events : List (Event T)) → all_permitted judge header events ≡ true →
    length (records_of (calls_of events)) ≤ record_limit
records-few judge header [] ok = omega arith
records-few judge header (e ∷ events) ok =
    let parts = and_parts (is_none (broken judge header events e)) (all_permitted judge header events) ok in
    act-few judge header events (without_tickets events) e.actor e.act (records-few judge header events parts.1) (permitted_of judge header events e parts.0).1

-- there are no more records than there may be
pub past-few : {T : Type 0} (judge : Judge T) (header : Header) (events : List (Event T)) → all_permitted judge header events ≡ true →
    length (records (without_tickets events)) ≤ record_limit
past-few judge header events ok = subst (λ rs. length rs ≤ record_limit) (sym (records-with (λ _. tt) events)) (records-few judge header events ok)

-- ---- tasks

one-of-more : (b : Bool) (r : Record) (t : Table Record Bool) (n : ℕ) → length (chosen t) ≤ n → length (if b then r ∷ chosen t else chosen t) ≤ n + 1
one-of-more true r t n le = omega arith
one-of-more false r t n le = omega arith

chosen-few : (answer : Table Record Bool → Record → Bool) (rs : List Record) → length (chosen (downward answer rs)) ≤ length rs
chosen-few answer [] = omega arith
chosen-few answer (r ∷ rs) =
    let later = downward answer rs in
    let here : length (chosen (downward answer (r ∷ rs))) ≤ length rs + 1 = one-of-more (answer later r) r later (length rs) (chosen-few answer rs) in
    omega arith

-- there are no more tasks than records
pub tasks-few : (past : Past) → length (chosen (tasks past)) ≤ length (records past)
tasks-few past = chosen-few (task_among past) (records past)

-- and in a journal whose events are permitted 64 bits can count them
pub tasks-counted : {T : Type 0} (judge : Judge T) (header : Header) (events : List (Event T)) → all_permitted judge header events ≡ true →
    length (chosen (tasks (without_tickets events))) < 2 ^ 64
tasks-counted judge header events ok = omega (arith, tasks-few (without_tickets events), past-few judge header events ok)
