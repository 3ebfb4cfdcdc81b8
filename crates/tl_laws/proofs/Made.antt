-- Each file that is named, and each input, is an output of an accepted record.
use Rattle.std.proofs.Common.{◌≡◌, ℕ, ◌<◌, true, ◌&&◌, List, [], ◌∷◌, ◌++◌, length, slice_get, Option, Some, None, is_none, refl, sym, ap, ◌∙◌, subst, arith}
use Rattle.std.specs.List.{AllByRecursion}
use Rattle.std.proofs.lemmas.Bool.{and_parts, lt-ltb}
use Rattle.tl_types.specs.declared.actor.Actor.{Actor}
use Rattle.tl_types.specs.declared.file_id.FileId.{FileId}
use Rattle.tl_types.specs.declared.record_id.RecordId.{RecordId}
use Rattle.tl_model.specs.declared.command.Command.{Command}
use Rattle.tl_model.specs.declared.command.Command.TheVariants.{Put, Job, Read, Delete, Mkdir, Rename, Pin, Unpin, List as list, Stat, Free as free}
use Rattle.tl_model.specs.declared.reply.Reply.{Reply}
use Rattle.tl_model.specs.declared.reply.Reply.TheVariants.{Made, Fine, Opened, Listed, Stated, Exists, NoSuch, NotFile, NotDir, NotEmpty, TooDeep, IntoItself, TooMany}
use Rattle.tl_model.specs.declared.record.Record.{Record}
use Rattle.tl_model.specs.declared.record.Record.TheVariants as kind
use Rattle.tl_model.specs.declared.header.Header.{Header}
use Rattle.tl_model.specs.declared.event.Act.{Act}
use Rattle.tl_model.specs.declared.event.Act.TheVariants.{Call, Served, Shut, Claim, Done, Back, Lose, Free, Drop, Load, Save, Saved, Unsave, Collect}
use Rattle.tl_model.specs.declared.event.Event.{Event}
use Rattle.tl_model.specs.Namespace.{Names, PathOf, Node, dir, file, node_at}
use Rattle.tl_model.specs.Past.{Past, without_tickets}
use Rattle.tl_model.specs.Replies.{reply_to, reply_same}
use Rattle.tl_model.specs.History.{calls_of, names, names_of, records, records_of, record_made, with_call, reply_after, inputs_of, has_output, names_after, files_at, file_at}
use Rattle.tl_model.specs.Rules.{Judge, is_permitted, all_permitted, broken, is_client}
use Rattle.tl_laws.proofs.Refusals.{put_made, job_made}
use Rattle.tl_laws.proofs.Permits.{permitted_of}
use Rattle.tl_laws.proofs.Numbering.{get-left, get-last, get-within}
use Rattle.tl_laws.specs.Order.{EachNode}
use Rattle.tl_laws.proofs.Order.{NodeFact, files_made, each-after, all-map, all-append}
use Rattle.tl_laws.proofs.Paths.{node-among}
use Rattle.tl_laws.proofs.Tickets.{names-with, records-with}
use Rattle.tl_model.specs.Actors.{is_idle}
use Rattle.tl_laws.specs.Made.{IsOutputOf, IsMade, HasMadeInputs, IsMadeOf}

made-fact : (rs : List Record) → NodeFact (IsMade rs)
made-fact rs = record { of_dir = tt; of_pin = λ f was now h. h }

output-at : (rs more : List Record) (n out : ℕ) (o : Option Record) → slice_get rs n ≡ o → has_output o out ≡ true → has_output (slice_get (rs ++ more) n) out ≡ true
output-at rs more n out None e h = absurd (cc)
output-at rs more n out (Some r) e h = ap (λ o. has_output o out) (get-left rs more n (get-within rs n r e) ∙ e) ∙ h

pub output-stays : (rs more : List Record) (f : FileId) → IsOutputOf rs f → IsOutputOf (rs ++ more) f
output-stays rs more f h = output-at rs more f.rec.0 f.out (slice_get rs f.rec.0) refl h

made-stays : (rs more : List Record) (node : Node) → IsMade rs node → IsMade (rs ++ more) node
made-stays rs more dir h = tt
made-stays rs more (file f pinned) h = output-stays rs more f h

file-made : (rs : List Record) (names : Names) (path : PathOf) (o : Option Node) (files : List FileId) → node_at names path ≡ o → EachNode (IsMade rs) names →
    AllByRecursion (IsOutputOf rs) files → AllByRecursion (IsOutputOf rs) (file_at o files)
file-made rs names path None files e all h = h
file-made rs names path (Some dir) files e all h = h
file-made rs names path (Some (file f pinned)) files e all h = (node-among (IsMade rs) names path (file f pinned) all e, h)

files-made : (rs : List Record) (names : Names) (paths : List PathOf) → EachNode (IsMade rs) names → AllByRecursion (IsOutputOf rs) (files_at names paths)
files-made rs names [] all = tt
files-made rs names (path ∷ paths) all = file-made rs names path (node_at names path) (files_at names paths) refl all (files-made rs names paths all)

new-output : {T : Type 0} (reply : Reply) (command : Command T) (names : Names) (rs : List Record) (made : RecordId) (i : ℕ) → reply_same (reply_to names (length rs) command) reply ≡ true →
    reply ≡ Made made → i < files_made command → IsOutputOf (rs ++ record_made reply command names) (record { rec = made; out = i })
new-output (Made other) (Put path len digest ticket) names rs made i same is h =
    let at : other.0 ≡ length rs = ap (λ (r : RecordId). r.0) (put_made names (length rs) path len digest ticket other same) in
    let it : other ≡ made = cc in
    let place : made.0 ≡ length rs = ap (λ (r : RecordId). r.0) (sym it) ∙ at in
    ap (λ o. has_output o i) (get-last rs (kind.Put other) made.0 place) ∙ lt-ltb i 1 h
new-output {T} (Made other) (Job core prio inputs outputs) names rs made i same is h =
    let at : other.0 ≡ length rs = ap (λ (r : RecordId). r.0) (job_made T names (length rs) core prio inputs outputs other same) in
    let it : other ≡ made = cc in
    let place : made.0 ≡ length rs = ap (λ (r : RecordId). r.0) (sym it) ∙ at in
    ap (λ o. has_output o i) (get-last rs (kind.Job other core prio (files_at names inputs) (length outputs)) made.0 place) ∙ lt-ltb i (length outputs) h
new-output (Made other) (Read path prio form) names rs made i same is h = absurd (omega arith)
new-output (Made other) (Delete path) names rs made i same is h = absurd (omega arith)
new-output (Made other) (Mkdir path) names rs made i same is h = absurd (omega arith)
new-output (Made other) (Rename from to) names rs made i same is h = absurd (omega arith)
new-output (Made other) (Pin path) names rs made i same is h = absurd (omega arith)
new-output (Made other) (Unpin path) names rs made i same is h = absurd (omega arith)
new-output (Made other) (list path) names rs made i same is h = absurd (omega arith)
new-output (Made other) (Stat path) names rs made i same is h = absurd (omega arith)
new-output (Made other) (free path) names rs made i same is h = absurd (omega arith)
new-output Fine command names rs made i same is h = absurd (cc)
new-output (Opened g) command names rs made i same is h = absurd (cc)
new-output (Listed entries) command names rs made i same is h = absurd (cc)
new-output (Stated s) command names rs made i same is h = absurd (cc)
new-output Exists command names rs made i same is h = absurd (cc)
new-output NoSuch command names rs made i same is h = absurd (cc)
new-output NotFile command names rs made i same is h = absurd (cc)
new-output NotDir command names rs made i same is h = absurd (cc)
new-output NotEmpty command names rs made i same is h = absurd (cc)
new-output TooDeep command names rs made i same is h = absurd (cc)
new-output IntoItself command names rs made i same is h = absurd (cc)
new-output TooMany command names rs made i same is h = absurd (cc)

new-inputs : {T : Type 0} (reply : Reply) (command : Command T) (names : Names) (rs : List Record) → EachNode (IsMade rs) names →
    AllByRecursion (HasMadeInputs rs) (record_made reply command names)
new-inputs (Made made) (Put path len digest ticket) names rs all = (tt, tt)
new-inputs (Made made) (Job core prio inputs outputs) names rs all = (files-made rs names inputs all, tt)
new-inputs (Made made) (Read path prio form) names rs all = tt
new-inputs (Made made) (Delete path) names rs all = tt
new-inputs (Made made) (Mkdir path) names rs all = tt
new-inputs (Made made) (Rename from to) names rs all = tt
new-inputs (Made made) (Pin path) names rs all = tt
new-inputs (Made made) (Unpin path) names rs all = tt
new-inputs (Made made) (list path) names rs all = tt
new-inputs (Made made) (Stat path) names rs all = tt
new-inputs (Made made) (free path) names rs all = tt
new-inputs Fine command names rs all = tt
new-inputs (Opened g) command names rs all = tt
new-inputs (Listed entries) command names rs all = tt
new-inputs (Stated s) command names rs all = tt
new-inputs Exists command names rs all = tt
new-inputs NoSuch command names rs all = tt
new-inputs NotFile command names rs all = tt
new-inputs NotDir command names rs all = tt
new-inputs NotEmpty command names rs all = tt
new-inputs TooDeep command names rs all = tt
new-inputs IntoItself command names rs all = tt
new-inputs TooMany command names rs all = tt

call-makes : {T : Type 0} (reply : Reply) (command : Command T) (names : Names) (rs : List Record) → IsMadeOf names rs →
    reply_same (reply_to names (length rs) command) reply ≡ true → IsMadeOf (names_after reply command names) (rs ++ record_made reply command names)
call-makes reply command names rs known same =
    let more = record_made reply command names in
    let stays : (r : Record) → HasMadeInputs rs r → HasMadeInputs (rs ++ more) r =
    λ r h. all-map (IsOutputOf rs) (IsOutputOf (rs ++ more)) (λ f k. output-stays rs more f k) (inputs_of r) h in
    record {
      named = each-after (IsMade (rs ++ more)) (made-fact (rs ++ more)) reply command names
          (all-map (λ entry. IsMade rs entry.1) (λ entry. IsMade (rs ++ more) entry.1) (λ entry h. made-stays rs more entry.1 h) names known.named)
          (λ made i is h. new-output reply command names rs made i same is h);
      inputs = all-append (HasMadeInputs (rs ++ more)) rs more (all-map (HasMadeInputs rs) (HasMadeInputs (rs ++ more)) stays rs known.inputs)
          (all-map (HasMadeInputs rs) (HasMadeInputs (rs ++ more)) stays more (new-inputs reply command names rs known.named));
    }

act-makes : {T : Type 0} (judge : Judge T) (header : Header) (events : List (Event T)) (past : Past) (actor : Actor) (act : Act T) →
    IsMadeOf (names_of (calls_of events)) (records_of (calls_of events)) → is_permitted judge header events past actor act ≡ true →
    IsMadeOf (names_of (with_call actor act (calls_of events))) (records_of (with_call actor act (calls_of events)))
act-makes judge header events past actor (Call command reply) known ok =
    call-makes reply command (names_of (calls_of events)) (records_of (calls_of events)) known
    (and_parts (is_client actor && is_idle past actor && judge.put_fits command) (reply_same (reply_after (calls_of events) command) reply) ok).1
act-makes judge header events past actor (Served f digest) known ok = known
act-makes judge header events past actor (Shut f) known ok = known
act-makes judge header events past actor (Claim worker made) known ok = known
act-makes judge header events past actor (Done worker made) known ok = known
act-makes judge header events past actor (Back made) known ok = known
act-makes judge header events past actor (Lose worker) known ok = known
act-makes judge header events past actor (Free f) known ok = known
act-makes judge header events past actor (Drop worker f) known ok = known
act-makes judge header events past actor (Load worker f) known ok = known
act-makes judge header events past actor (Save f) known ok = known
act-makes judge header events past actor (Saved f size digest) known ok = known
act-makes judge header events past actor (Unsave f) known ok = known
act-makes judge header events past actor (Collect made) known ok = known

all-made : {T : Type 0} (judge : Judge T) (header : Header) (events : List (Event T)) → all_permitted judge header events ≡ true →
    IsMadeOf (names_of (calls_of events)) (records_of (calls_of events))
all-made judge header [] ok = record { named = (tt, tt); inputs = tt }
all-made judge header (e ∷ events) ok =
    let parts = and_parts (is_none (broken judge header events e)) (all_permitted judge header events) ok in
    act-makes judge header events (without_tickets events) e.actor e.act (all-made judge header events parts.1)
    (permitted_of judge header events e parts.0).1

-- in a journal whose events are permitted each named file and each input is an output of an accepted record
pub past-made : {T : Type 0} (judge : Judge T) (header : Header) (events : List (Event T)) → all_permitted judge header events ≡ true →
    IsMadeOf (names (without_tickets events)) (records (without_tickets events))
past-made judge header events ok =
    let P : Names → Type 0 = λ ns. IsMadeOf ns (records (without_tickets events)) in
    let Q : List Record → Type 0 = λ rs. IsMadeOf (names_of (calls_of events)) rs in
    subst P (sym (names-with (λ _. tt) events)) (subst Q (sym (records-with (λ _. tt) events)) (all-made judge header events ok))
