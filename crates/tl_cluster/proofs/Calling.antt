-- A call is recorded.
use Rattle.std.proofs.Common.{◌≡◌, ℕ, ◌+◌, ◌<◌, Bool, true, false, if◌then◌else◌, bytes_eq, List, [], ◌∷◌, ◌++◌, length, slice_get, Option, Some, unwrap_or, refl, sym, ap, ◌∙◌, arith, length-append}
use Rattle.std.specs.List.{AllByRecursion}
use Rattle.std.specs.Option.{option_and_then}
use Rattle.std.specs.Cmp.Lexicographic.{pointwise}
use Rattle.std.proofs.lemmas.Bool.{and_from}
use Rattle.std.proofs.lemmas.Bool.Decides.{Decides-eqb}
use Rattle.std.proofs.lemmas.Slice.Eq.{bytes_eq-Decides}
use Rattle.tl_types.specs.Same.{record_same-Decides, file_same, file_same-Decides}
use Rattle.tl_types.specs.declared.actor.Actor.{Actor}
use Rattle.tl_types.specs.declared.digest.Digest.{Digest}
use Rattle.tl_types.specs.declared.file_id.FileId.{FileId}
use Rattle.tl_types.specs.declared.record_id.RecordId.{RecordId}
use Rattle.tl_types.specs.declared.outcome.Outcome.{Outcome}
use Rattle.tl_model.specs.declared.command.Command.{Command}
use Rattle.tl_model.specs.declared.command.Command.TheVariants.{Put, Job, Read, Delete, Mkdir, Rename, Pin, Unpin, List as list, Stat, Free as free}
use Rattle.tl_model.specs.declared.reply.Entry.{Entry}
use Rattle.tl_model.specs.declared.reply.Status.{Status}
use Rattle.tl_model.specs.declared.reply.Status.TheVariants as status
use Rattle.tl_model.specs.declared.reply.Reply.{Reply}
use Rattle.tl_model.specs.declared.reply.Reply.TheVariants.{Made, Fine, Opened, Listed, Stated, Exists, NoSuch, NotFile, NotDir, NotEmpty, TooDeep, IntoItself, TooMany}
use Rattle.tl_model.specs.declared.event.Act.{Act}
use Rattle.tl_model.specs.declared.event.Act.TheVariants.{Call, Served, Shut, Claim, Done, Back, Lose, Free, Drop, Load, Save, Saved, Unsave, Collect}
use Rattle.tl_model.specs.declared.event.Event.{Event}
use Rattle.tl_model.specs.declared.record.Record.{Record}
use Rattle.tl_model.specs.Past.{command_with, act_with, events_with, without_tickets}
use Rattle.tl_model.specs.Namespace.{Names}
use Rattle.tl_model.specs.Replies.{reply_to, reply_same, entry_same, bool_same, status_same}
use Rattle.tl_model.specs.History.{HistoryOf, calls_of, names, names_of, records, records_of, record_made, files_at, with_call}
use Rattle.tl_model.specs.Values.{Outcomes, outcomes_of, outcomes_made, value, no_outcome}
use Rattle.tl_model.specs.Rules.{put_as}
use Rattle.tl_laws.proofs.Numbering.{get-left, get-within}
use Rattle.tl_laws.proofs.Refusals.{put_made as put-number, inputs-unrefused}
use Rattle.tl_laws.proofs.Paths.{inputs-found}
use Rattle.tl_cluster.specs.Stands.{IsSound}
use Rattle.tl_cluster.specs.Called.{IsFitting}

-- ---- replies

bool-same : (b : Bool) → bool_same b b ≡ true
bool-same true = refl
bool-same false = refl

entry-same : (e : Entry) → entry_same e e ≡ true
entry-same e = and_from (bytes_eq e.name e.name) (bool_same e.dir e.dir) ((bytes_eq-Decides e.name e.name).1 refl) (bool-same e.dir)

entries-same : (es : List Entry) → pointwise entry_same es es ≡ true
entries-same [] = refl
entries-same (e ∷ es) = and_from (entry_same e e) (pointwise entry_same es es) (entry-same e) (entries-same es)

status-same : (s : Status) → status_same s s ≡ true
status-same (status.File f pinned) = and_from (file_same f f) (bool_same pinned pinned) ((file_same-Decides f f).1 refl) (bool-same pinned)
status-same (status.Dir n) = (Decides-eqb n n).1 refl

-- a reply is the same as itself
pub reply-same : (r : Reply) → reply_same r r ≡ true
reply-same (Made made) = (record_same-Decides made made).1 refl
reply-same Fine = refl
reply-same (Opened f) = (file_same-Decides f f).1 refl
reply-same (Listed entries) = entries-same entries
reply-same (Stated s) = status-same s
reply-same Exists = refl
reply-same NoSuch = refl
reply-same NotFile = refl
reply-same NotDir = refl
reply-same NotEmpty = refl
reply-same TooDeep = refl
reply-same IntoItself = refl
reply-same TooMany = refl

-- a command that fits does so without its ticket too
pub fitting-plain : {T U : Type 0} (g : T → U) (command : Command T) → IsFitting command → IsFitting (command_with g command)
fitting-plain g (Put path len digest ticket) h = h
fitting-plain g (Job core prio inputs outputs) h = h
fitting-plain g (Read path prio form) h = h
fitting-plain g (Delete path) h = h
fitting-plain g (Mkdir path) h = h
fitting-plain g (Rename from to) h = h
fitting-plain g (Pin path) h = h
fitting-plain g (Unpin path) h = h
fitting-plain g (list path) h = h
fitting-plain g (Stat path) h = h
fitting-plain g (free path) h = h

-- ---- records and what files hold

made-count : {T : Type 0} (content : T → List ℕ) (reply : Reply) (command : Command T) (names names' : Names) (table : Outcomes) →
    length (outcomes_made reply (command_with content command) names table) ≡ length (record_made reply (command_with {U = Unit {0}} (λ _. tt) command) names')
made-count content (Made made) (Put path len digest ticket) names names' table = refl
made-count content (Made made) (Job core prio inputs outputs) names names' table = refl
made-count content (Made made) (Read path prio form) names names' table = refl
made-count content (Made made) (Delete path) names names' table = refl
made-count content (Made made) (Mkdir path) names names' table = refl
made-count content (Made made) (Rename from to) names names' table = refl
made-count content (Made made) (Pin path) names names' table = refl
made-count content (Made made) (Unpin path) names names' table = refl
made-count content (Made made) (list path) names names' table = refl
made-count content (Made made) (Stat path) names names' table = refl
made-count content (Made made) (free path) names names' table = refl
made-count content Fine command names names' table = refl
made-count content (Opened g) command names names' table = refl
made-count content (Listed entries) command names names' table = refl
made-count content (Stated s) command names names' table = refl
made-count content Exists command names names' table = refl
made-count content NoSuch command names names' table = refl
made-count content NotFile command names names' table = refl
made-count content NotDir command names names' table = refl
made-count content NotEmpty command names names' table = refl
made-count content TooDeep command names names' table = refl
made-count content IntoItself command names names' table = refl
made-count content TooMany command names names' table = refl

count-step : {T : Type 0} (content : T → List ℕ) (actor : Actor) (act : Act T) (told : HistoryOf (List ℕ)) (calls : HistoryOf (Unit {0})) →
    length (outcomes_of told) ≡ length (records_of calls) →
    length (outcomes_of (with_call actor (act_with content act) told)) ≡ length (records_of (with_call actor (act_with {U = Unit {0}} (λ _. tt) act) calls))
count-step content actor (Call command reply) told calls e =
    length-append (outcomes_of told) (outcomes_made reply (command_with content command) (names_of told) (outcomes_of told))
    ∙ ap (λ n. n + length (outcomes_made reply (command_with content command) (names_of told) (outcomes_of told))) e
    ∙ ap (λ n. length (records_of calls) + n) (made-count content reply command (names_of told) (names_of calls) (outcomes_of told))
    ∙ sym (length-append (records_of calls) (record_made reply (command_with {U = Unit {0}} (λ _. tt) command) (names_of calls)))
count-step content actor (Served f digest) told calls e = e
count-step content actor (Shut f) told calls e = e
count-step content actor (Claim worker made) told calls e = e
count-step content actor (Done worker made) told calls e = e
count-step content actor (Back made) told calls e = e
count-step content actor (Lose worker) told calls e = e
count-step content actor (Free f) told calls e = e
count-step content actor (Drop worker f) told calls e = e
count-step content actor (Load worker f) told calls e = e
count-step content actor (Save f) told calls e = e
count-step content actor (Saved f size digest) told calls e = e
count-step content actor (Unsave f) told calls e = e
count-step content actor (Collect made) told calls e = e

-- there are outcomes for each record
pub outcome-count : {T : Type 0} (content : T → List ℕ) (events : List (Event T)) →
    length (outcomes_of (calls_of (events_with content events))) ≡ length (records (without_tickets events))
outcome-count content [] = refl
outcome-count content (e ∷ events) = count-step content e.actor e.act (calls_of (events_with content events)) (calls_of (without_tickets events)) (outcome-count content events)

-- what a file holds stays as it was after a call
pub value-stays : {T : Type 0} (content : T → List ℕ) (events : List (Event T)) (actor : Actor) (command : Command T) (reply : Reply) (f : FileId) →
    f.rec.0 < length (records (without_tickets events)) →
    value (events_with content (record { actor = actor; act = Call command reply } ∷ events)) f ≡ value (events_with content events) f
value-stays content events actor command reply f known =
    let table = outcomes_of (calls_of (events_with content events)) in
    let within : f.rec.0 < length table = omega (arith, outcome-count content events) in
    ap (λ (o : Option (List Outcome)). unwrap_or (option_and_then (λ (outcomes : List Outcome). slice_get outcomes f.out) o) no_outcome)
    (get-left table (outcomes_made reply (command_with content command) (names_of (calls_of (events_with content events))) table) f.rec.0 within)

-- a record stays where it was
pub record-stays : (past more : List Record) (n : ℕ) (r : Record) → slice_get past n ≡ Some r → slice_get (past ++ more) n ≡ Some r
record-stays past more n r is = get-left past more n (get-within past n r is) ∙ is

pub all-append : {A : Type 0} (P : A → Type 0) (xs ys : List A) → AllByRecursion P xs → AllByRecursion P ys → AllByRecursion P (xs ++ ys)
all-append P [] ys ps qs = qs
all-append P (x ∷ xs) ys ps qs = (ps.0, all-append P xs ys ps.1 qs)

-- a record that a call adds is sound
pub sound-made : {T : Type 0} (reply : Reply) (command : Command T) (names : Names) (count : ℕ) → reply ≡ reply_to names count command → IsFitting command →
    AllByRecursion IsSound (record_made reply command names)
sound-made (Made made) (Put path len digest ticket) names count is fits = (tt, tt)
sound-made {T} (Made made) (Job core prio inputs outputs) names count is fits =
    let found : length (files_at names inputs) ≡ length inputs =
    inputs-found names inputs (inputs-unrefused T names count core prio inputs outputs made (sym is)) in
    ((fits.0 ∙ sym found, fits.1), tt)
sound-made (Made made) (Read path prio form) names count is fits = tt
sound-made (Made made) (Delete path) names count is fits = tt
sound-made (Made made) (Mkdir path) names count is fits = tt
sound-made (Made made) (Rename from to) names count is fits = tt
sound-made (Made made) (Pin path) names count is fits = tt
sound-made (Made made) (Unpin path) names count is fits = tt
sound-made (Made made) (list path) names count is fits = tt
sound-made (Made made) (Stat path) names count is fits = tt
sound-made (Made made) (free path) names count is fits = tt
sound-made Fine command names count is fits = tt
sound-made (Opened g) command names count is fits = tt
sound-made (Listed entries) command names count is fits = tt
sound-made (Stated s) command names count is fits = tt
sound-made Exists command names count is fits = tt
sound-made NoSuch command names count is fits = tt
sound-made NotFile command names count is fits = tt
sound-made NotDir command names count is fits = tt
sound-made NotEmpty command names count is fits = tt
sound-made TooDeep command names count is fits = tt
sound-made IntoItself command names count is fits = tt
sound-made TooMany command names count is fits = tt

-- ---- puts

other-file : {A : Type 0} (count : ℕ) (f : FileId) (made : RecordId) (new old : A) (b : Bool) → file_same f (record { rec = made; out = 0 }) ≡ b → made ≡ record { 0 = count } → f.rec.0 < count →
    (if b then new else old) ≡ old
other-file count f made new old true e is known =
    let same : f ≡ record { rec = made; out = 0 } = (file_same-Decides f (record { rec = made; out = 0 })).0 e in
    let at : f.rec.0 ≡ count = ap (λ (g : FileId). g.rec.0) same ∙ ap (λ (r : RecordId). r.0) is in
    absurd (omega arith)
other-file count f made new old false e is known = refl

-- the put of a file of an earlier record stays the same
pub put-stays : {T : Type 0} (reply : Reply) (command : Command T) (names : Names) (count : ℕ) (f : FileId) (o : Option (ℕ × Digest)) →
    reply_same (reply_to names count command) reply ≡ true → f.rec.0 < count → put_as reply command f o ≡ o
put-stays (Made made) (Put path len digest ticket) names count f o same known =
    other-file count f made (Some (len, digest)) o (file_same f (record { rec = made; out = 0 })) refl
    (put-number names count path len digest ticket made same) known
put-stays (Made made) (Job core prio inputs outputs) names count f o same known = refl
put-stays (Made made) (Read path prio form) names count f o same known = refl
put-stays (Made made) (Delete path) names count f o same known = refl
put-stays (Made made) (Mkdir path) names count f o same known = refl
put-stays (Made made) (Rename from to) names count f o same known = refl
put-stays (Made made) (Pin path) names count f o same known = refl
put-stays (Made made) (Unpin path) names count f o same known = refl
put-stays (Made made) (list path) names count f o same known = refl
put-stays (Made made) (Stat path) names count f o same known = refl
put-stays (Made made) (free path) names count f o same known = refl
put-stays Fine command names count f o same known = refl
put-stays (Opened g) command names count f o same known = refl
put-stays (Listed entries) command names count f o same known = refl
put-stays (Stated s) command names count f o same known = refl
put-stays Exists command names count f o same known = refl
put-stays NoSuch command names count f o same known = refl
put-stays NotFile command names count f o same known = refl
put-stays NotDir command names count f o same known = refl
put-stays NotEmpty command names count f o same known = refl
put-stays TooDeep command names count f o same known = refl
put-stays IntoItself command names count f o same known = refl
put-stays TooMany command names count f o same known = refl
