-- The parts follow a journal, event by event.
use Rattle.std.proofs.Common.{◌≡◌, ◌+◌, ℕ, true, false, List, ◌∷◌, length, slice_get, Option, None, is_none, if◌then◌else◌, refl, sym, ap, ◌∙◌, arith}
use Rattle.std.proofs.lemmas.Bool.{and_parts}
use Rattle.tl_types.specs.declared.actor.Actor.{Actor}
use Rattle.tl_types.specs.declared.record_id.RecordId.{RecordId}
use Rattle.tl_model.specs.declared.command.Command.{Command}
use Rattle.tl_model.specs.declared.command.Command.TheVariants.{Put, Job, Read, Delete, Mkdir, Rename, Pin, Unpin, List as list, Stat, Free as free}
use Rattle.tl_model.specs.Namespace.{Names}
use Rattle.tl_model.specs.declared.event.Act.{Act}
use Rattle.tl_model.specs.declared.event.Act.TheVariants.{Call, Served, Shut, Claim, Done, Back, Lose, Free, Drop, Load, Save, Saved, Unsave, Collect}
use Rattle.tl_model.specs.declared.event.Event.{Event}
use Rattle.tl_model.specs.declared.header.Header.{Header}
use Rattle.tl_model.specs.declared.record.Record.{Record}
use Rattle.tl_model.specs.declared.reply.Reply.{Reply}
use Rattle.tl_model.specs.declared.reply.Reply.TheVariants.{Made, Fine, Opened, Listed, Stated, Exists, NoSuch, NotFile, NotDir, NotEmpty, TooDeep, IntoItself, TooMany}
use Rattle.tl_model.specs.History.{HistoryOf, calls_of, names, names_of, record_at, record_made, records_of, with_call}
use Rattle.tl_model.specs.Journal.{calls_in}
use Rattle.tl_model.specs.Past.{Past, act_with, command_with, without_tickets}
use Rattle.tl_model.specs.Replies.{reply_to}
use Rattle.tl_model.specs.Residency.{is_kept}
use Rattle.tl_model.specs.Rules.{all_permitted, broken, lawful_judge}
use Rattle.tl_laws.proofs.Tickets.{names-with, record_made-with}
use Rattle.tl_lineage.specs.Slots.{record_of}
use Rattle.tl_lineage.specs.Standing.{Stand, is_gone, slots_after, slots_of}
use Rattle.tl_lineage.specs.declared.slot.Slot.{Slot}
use Rattle.tl_lineage.proofs.Lawful.{permitted-stand}
use Rattle.tl_lineage.proofs.Stands.{found-at}
use Rattle.tl_steps.specs.Steps.{accepts}
use Rattle.tl_ledger.specs.Naming.{record_for}
use Rattle.tl_ledger.specs.Parts.{FollowPast, IsAdded, PartsData, StandFor, count_after}
use Rattle.tl_ledger.proofs.Added.{call-record}

-- an act that is no call accepts nothing
pub accepts-none : {T : Type 0} (act : Act T) → calls_in act ≡ 0 → accepts (act_with {U = Unit {0}} (λ _. tt) act) ≡ false
accepts-none (Call command reply) h = absurd (cc)
accepts-none (Served file digest) h = refl
accepts-none (Shut file) h = refl
accepts-none (Claim worker made) h = refl
accepts-none (Done worker made) h = refl
accepts-none (Back made) h = refl
accepts-none (Lose worker) h = refl
accepts-none (Free file) h = refl
accepts-none (Drop worker file) h = refl
accepts-none (Load worker file) h = refl
accepts-none (Save file) h = refl
accepts-none (Saved file size digest) h = refl
accepts-none (Unsave file) h = refl
accepts-none (Collect made) h = refl

-- and leaves the history as it was
pub no-call : {T : Type 0} (actor : Actor) (act : Act T) (calls : HistoryOf T) → calls_in act ≡ 0 → with_call actor act calls ≡ calls
no-call actor (Call command reply) calls h = absurd (cc)
no-call actor (Served file digest) calls h = refl
no-call actor (Shut file) calls h = refl
no-call actor (Claim worker made) calls h = refl
no-call actor (Done worker made) calls h = refl
no-call actor (Back made) calls h = refl
no-call actor (Lose worker) calls h = refl
no-call actor (Free file) calls h = refl
no-call actor (Drop worker file) calls h = refl
no-call actor (Load worker file) calls h = refl
no-call actor (Save file) calls h = refl
no-call actor (Saved file size digest) calls h = refl
no-call actor (Unsave file) calls h = refl
no-call actor (Collect made) calls h = refl

-- the parts after one event more
pub followed-by : {T : Type 0} (old new : PartsData) (header : Header) (events : List (Event T)) (event : Event T) → FollowPast old header events →
    new.order.turns.rule ≡ old.order.turns.rule →
    new.graph.slots ≡ slots_after (without_tickets events) (act_with (λ _. tt) event.act) old.graph.slots →
    (StandFor header old (without_tickets events) → all_permitted lawful_judge header (event ∷ events) ≡ true → StandFor header new (without_tickets (event ∷ events))) →
    FollowPast new header (event ∷ events)
followed-by old new header events event follow rule slots stand = record {
  rule = rule ∙ follow.rule;
  slots = slots ∙ ap (slots_after (without_tickets events) (act_with (λ _. tt) event.act)) follow.slots;
  stand = λ ok. stand (follow.stand (and_parts (is_none (broken lawful_judge header events event)) (all_permitted lawful_judge header events) ok).1) ok;
}

-- the parts with more room
pub kept-by : {T : Type 0} (old new : PartsData) (header : Header) (events : List (Event T)) → FollowPast old header events →
    new.order.turns.rule ≡ old.order.turns.rule → new.graph.slots ≡ old.graph.slots →
    ((header : Header) (past : Past) → StandFor header old past → StandFor header new past) → FollowPast new header events
kept-by old new header events follow rule slots stand = record {
  rule = rule ∙ follow.rule;
  slots = slots ∙ follow.slots;
  stand = λ ok. stand header (without_tickets events) (follow.stand ok);
}

-- the record that was made ready is the one that the call adds to the past
pub is-added : {T : Type 0} (events : List (Event T)) (command : Command T) (reply : Reply) (rec : Option Record) →
    reply ≡ reply_to (names_of (calls_of events)) (length (records_of (calls_of events))) command →
    rec ≡ record_for (record { 0 = length (records_of (calls_of events)) }) (names_of (calls_of events)) command →
    IsAdded (without_tickets events) (Call (command_with (λ _. tt) command) reply) rec
is-added events command reply rec is at h =
    let calls = calls_of events in
    let found = call-record (names_of calls) (length (records_of calls)) command reply rec is at h in
    ap (record_made reply (command_with {U = Unit {0}} (λ _. tt) command)) (names-with (λ _. tt) events)
    ∙ record_made-with (λ _. tt) reply command (names_of calls) ∙ found.same

-- what the graph has of a number
pub record-kept : {T : Type 0} (header : Header) (events : List (Event T)) (made : RecordId) (slots : List Slot) → slots ≡ slots_of (without_tickets events) →
    all_permitted lawful_judge header events ≡ true →
    record_of made.0 slots ≡ (if is_kept (without_tickets events) made then record_at (without_tickets events) made else None)
record-kept header events made slots is ok =
    let past = without_tickets events in
    let stand : Stand past (slots_of past) = permitted-stand lawful_judge header events ok in
    ap (record_of made.0) is ∙ at past made (slots_of past) stand
  where
    at : (past : Past) (made : RecordId) (slots : List Slot) → Stand past slots →
        record_of made.0 slots ≡ (if is_kept past made then record_at past made else None)
    at past made slots stand = found-at (is_gone past made.0) (slice_get slots made.0) (record_at past made) (stand.each made.0)

more-none : (n : ℕ) → n + 0 ≡ n
more-none n = omega arith

-- how many records there are after a call
pub call-count : {T : Type 0} (count : ℕ) (command : Command T) (reply : Reply) (names : Names) →
    count_after count (Call (command_with (λ _. tt) command) reply) ≡ count + length (record_made reply command names)
call-count count (Put path len digest ticket) (Made made) names = refl
call-count count (Job core prio inputs outputs) (Made made) names = refl
call-count count (Read path prio form) (Made made) names = sym (more-none count)
call-count count (Delete path) (Made made) names = sym (more-none count)
call-count count (Mkdir path) (Made made) names = sym (more-none count)
call-count count (Rename from to) (Made made) names = sym (more-none count)
call-count count (Pin path) (Made made) names = sym (more-none count)
call-count count (Unpin path) (Made made) names = sym (more-none count)
call-count count (list path) (Made made) names = sym (more-none count)
call-count count (Stat path) (Made made) names = sym (more-none count)
call-count count (free path) (Made made) names = sym (more-none count)
call-count count command Fine names = sym (more-none count)
call-count count command (Opened f) names = sym (more-none count)
call-count count command (Listed entries) names = sym (more-none count)
call-count count command (Stated status) names = sym (more-none count)
call-count count command Exists names = sym (more-none count)
call-count count command NoSuch names = sym (more-none count)
call-count count command NotFile names = sym (more-none count)
call-count count command NotDir names = sym (more-none count)
call-count count command NotEmpty names = sym (more-none count)
call-count count command TooDeep names = sym (more-none count)
call-count count command IntoItself names = sym (more-none count)
call-count count command TooMany names = sym (more-none count)
