-- A read whose file isn't available has a record to wait for that is next, and each one that is run leaves fewer tasks.
use Rattle.std.proofs.Common.{◌≡◌, ◌<◌, Bool, true, false, not, if◌then◌else◌, List, [], ◌∷◌, length, slice_get, Option, Some, None, Result, Ok, Err, is_none, is_some, refl, sym, ap, ◌∙◌, subst, arith}
use Rattle.std.specs.List.{list_any}
use Rattle.std.proofs.lemmas.Bool.{and_parts, and_from, ltb-true}
use Rattle.tl_types.specs.Same.{actor_same, file_same-Decides}
use Rattle.tl_types.specs.declared.actor.Actor.{Actor}
use Rattle.tl_types.specs.declared.file_id.FileId.{FileId}
use Rattle.tl_types.specs.declared.record_id.RecordId.{RecordId}
use Rattle.tl_types.specs.declared.worker_id.WorkerId.{WorkerId}
use Rattle.tl_model.specs.declared.command.Command.{Command}
use Rattle.tl_model.specs.declared.command.Command.TheVariants.{Put, Job, Read, Delete, Mkdir, Rename, Pin, Unpin, List as list, Stat, Free as free}
use Rattle.tl_model.specs.declared.reply.Reply.{Reply}
use Rattle.tl_model.specs.declared.reply.Reply.TheVariants.{Made, Fine, Opened, Listed, Stated, Exists, NoSuch, NotFile, NotDir, NotEmpty, TooDeep, IntoItself, TooMany}
use Rattle.tl_model.specs.declared.record.Record.{Record}
use Rattle.tl_model.specs.declared.record.Record.TheVariants as kind
use Rattle.tl_model.specs.declared.header.Header.{Header}
use Rattle.tl_model.specs.declared.event.Act.{Act}
use Rattle.tl_model.specs.declared.event.Act.TheVariants.{Call, Served, Shut, Claim, Done, Back, Lose, Free, Drop, Load, Save, Saved, Unsave, Collect}
use Rattle.tl_model.specs.declared.event.Event.{Event}
use Rattle.tl_model.specs.Past.{Past, command_with, act_with, without_tickets}
use Rattle.tl_model.specs.Tables.{chosen, downward}
use Rattle.tl_model.specs.Namespace.{file, Names}
use Rattle.tl_model.specs.Replies.{walk_to_file, opened, reply_to, reply_same}
use Rattle.tl_model.specs.History.{names, records, record_made, id_of, outputs_of, has_output}
use Rattle.tl_model.specs.Actors.{OpenRead, is_running, open_read, read_after_call, reads_file, is_read}
use Rattle.tl_model.specs.Residency.{is_resident, is_saved, is_available, was_done}
use Rattle.tl_model.specs.Plan.{is_awaited, is_wanted_by, lacks, next, task_among, is_task, tasks}
use Rattle.tl_model.specs.Rules.{Judge, lawful_judge, all_permitted, broken, is_lawful, is_permitted, is_quiet}
use Rattle.tl_laws.proofs.Refusals.{OnlyRefusesOr, walk_to_file-refuses}
use Rattle.tl_laws.proofs.Paths.{walk_to_file-finds, node-among}
use Rattle.tl_laws.specs.Order.{EachNode}
use Rattle.tl_laws.specs.Made.{IsOutputOf, IsMade}
use Rattle.tl_laws.proofs.Made.{output-stays, past-made}
use Rattle.tl_laws.proofs.Permits.{permitted_of}
use Rattle.tl_laws.proofs.Actors.{among-actors, reader-known}
use Rattle.tl_laws.proofs.Tickets.{reply_to-with}
use Rattle.tl_laws.proofs.Saves.{permitted-reply}
use Rattle.tl_laws.proofs.Ready.{IsResting, after, any-output, task-at, resting-next, lawful-rests}
use Rattle.tl_laws_progress.specs.Done.{after_done}
use Rattle.tl_laws_progress.proofs.Fewer.{or-left, or-right, idle-ends-none}
use Rattle.tl_laws_progress.proofs.Running.{next-and-drops-leave-fewer}

-- ---- the file of an open read

opens-found : (names : Names) (rs : List Record) (path : _) (f : FileId) (x : Result FileId Reply) → EachNode (IsMade rs) names → walk_to_file names path ≡ x → OnlyRefusesOr x →
    reply_same (opened x) (Opened f) ≡ true → IsOutputOf rs f
opens-found names rs path f (Ok g) all e only same =
    let it : g ≡ f = (file_same-Decides g f).0 same in
    let found = walk_to_file-finds names path g e in
    subst (IsOutputOf rs) it (node-among (IsMade rs) names path (file g found.0) all found.1)
opens-found names rs path f (Err (Opened g)) all e only same = absurd (cc)
opens-found names rs path f (Err (Made made)) all e only same = absurd (cc)
opens-found names rs path f (Err Fine) all e only same = absurd (cc)
opens-found names rs path f (Err (Listed entries)) all e only same = absurd (cc)
opens-found names rs path f (Err (Stated s)) all e only same = absurd (cc)
opens-found names rs path f (Err Exists) all e only same = absurd (cc)
opens-found names rs path f (Err NoSuch) all e only same = absurd (cc)
opens-found names rs path f (Err NotFile) all e only same = absurd (cc)
opens-found names rs path f (Err NotDir) all e only same = absurd (cc)
opens-found names rs path f (Err NotEmpty) all e only same = absurd (cc)
opens-found names rs path f (Err TooDeep) all e only same = absurd (cc)
opens-found names rs path f (Err IntoItself) all e only same = absurd (cc)
opens-found names rs path f (Err TooMany) all e only same = absurd (cc)

-- what an open read's file is after a call: that of the read before, or the named file that the call opens
call-reads : {T : Type 0} (reply : Reply) (command : Command T) (names : Names) (rs : List Record) (before : Option OpenRead) (read : OpenRead) → EachNode (IsMade rs) names →
    reply_same (reply_to names (length rs) command) reply ≡ true → (before ≡ Some read → IsOutputOf rs read.file) → read_after_call reply command before ≡ Some read →
    IsOutputOf rs read.file
call-reads (Opened f) (Read path prio form) names rs before read all same old is =
    let it : f ≡ read.file = cc in
    subst (IsOutputOf rs) it (opens-found names rs path f (walk_to_file names path) all refl (walk_to_file-refuses names path) same)
call-reads (Opened f) (Put path len digest ticket) names rs before read all same old is = old is
call-reads (Opened f) (Job core prio inputs outputs) names rs before read all same old is = old is
call-reads (Opened f) (Delete path) names rs before read all same old is = old is
call-reads (Opened f) (Mkdir path) names rs before read all same old is = old is
call-reads (Opened f) (Rename from to) names rs before read all same old is = old is
call-reads (Opened f) (Pin path) names rs before read all same old is = old is
call-reads (Opened f) (Unpin path) names rs before read all same old is = old is
call-reads (Opened f) (list path) names rs before read all same old is = old is
call-reads (Opened f) (Stat path) names rs before read all same old is = old is
call-reads (Opened f) (free path) names rs before read all same old is = old is
call-reads (Made made) command names rs before read all same old is = old is
call-reads Fine command names rs before read all same old is = old is
call-reads (Listed entries) command names rs before read all same old is = old is
call-reads (Stated s) command names rs before read all same old is = old is
call-reads Exists command names rs before read all same old is = old is
call-reads NoSuch command names rs before read all same old is = old is
call-reads NotFile command names rs before read all same old is = old is
call-reads NotDir command names rs before read all same old is = old is
call-reads NotEmpty command names rs before read all same old is = old is
call-reads TooDeep command names rs before read all same old is = old is
call-reads IntoItself command names rs before read all same old is = old is
call-reads TooMany command names rs before read all same old is = old is

if-none : {A : Type 0} (b : Bool) (o : Option A) (a : A) → (if b then None else o) ≡ Some a → o ≡ Some a
if-none true o a e = absurd (cc)
if-none false o a e = e

if-same : {A : Type 0} (b : Bool) (o : Option A) (a : A) → (if b then o else o) ≡ Some a → o ≡ Some a
if-same true o a e = e
if-same false o a e = e

if-either : {A : Type 0} (b : Bool) (new old : Option A) (a : A) (P : Type 0) → (new ≡ Some a → P) → (old ≡ Some a → P) → (if b then new else old) ≡ Some a → P
if-either true new old a P f g e = f e
if-either false new old a P f g e = g e

-- one event more
read-step : {T : Type 0} (judge : Judge T) (header : Header) (events : List (Event T)) (actor : Actor) (act : Act T) (a : Actor) (read : OpenRead) →
    EachNode (IsMade (records (without_tickets events))) (names (without_tickets events)) →
    is_permitted judge header events (without_tickets events) actor act ≡ true →
    (open_read (without_tickets events) a ≡ Some read → IsOutputOf (records (without_tickets events)) read.file) →
    open_read (record { actor = actor; act = act_with {U = Unit {0}} (λ _. tt) act } ∷ without_tickets events) a ≡ Some read →
    IsOutputOf (records (record { actor = actor; act = act_with {U = Unit {0}} (λ _. tt) act } ∷ without_tickets events)) read.file
read-step judge header events actor (Call command reply) a read all ok old is =
    let past : Past = without_tickets events in
    let plain : Command (Unit {0}) = command_with (λ _. tt) command in
    let same = permitted-reply judge header events actor command reply ok in
    let plain_same : reply_same (reply_to (names past) (length (records past)) plain) reply ≡ true =
    ap (λ (r : Reply). reply_same r reply) (reply_to-with (λ _. tt) (names past) (length (records past)) command) ∙ same in
    output-stays (records past) (record_made reply plain (names past)) read.file
    (if-either (actor_same a actor) (read_after_call reply plain (open_read past a)) (open_read past a) read (IsOutputOf (records past) read.file)
    (λ e. call-reads reply plain (names past) (records past) (open_read past a) read all plain_same old e) old is)
read-step judge header events actor (Served g d) a read all ok old is = old (if-none (actor_same a actor) (open_read (without_tickets events) a) read is)
read-step judge header events actor (Shut g) a read all ok old is = old (if-none (actor_same a actor) (open_read (without_tickets events) a) read is)
read-step judge header events actor (Claim worker made) a read all ok old is = old (if-same (actor_same a actor) (open_read (without_tickets events) a) read is)
read-step judge header events actor (Done worker made) a read all ok old is = old (if-same (actor_same a actor) (open_read (without_tickets events) a) read is)
read-step judge header events actor (Back made) a read all ok old is = old (if-same (actor_same a actor) (open_read (without_tickets events) a) read is)
read-step judge header events actor (Lose worker) a read all ok old is = old (if-same (actor_same a actor) (open_read (without_tickets events) a) read is)
read-step judge header events actor (Free g) a read all ok old is = old (if-same (actor_same a actor) (open_read (without_tickets events) a) read is)
read-step judge header events actor (Drop worker g) a read all ok old is = old (if-same (actor_same a actor) (open_read (without_tickets events) a) read is)
read-step judge header events actor (Load worker g) a read all ok old is = old (if-same (actor_same a actor) (open_read (without_tickets events) a) read is)
read-step judge header events actor (Save g) a read all ok old is = old (if-same (actor_same a actor) (open_read (without_tickets events) a) read is)
read-step judge header events actor (Saved g size d) a read all ok old is = old (if-same (actor_same a actor) (open_read (without_tickets events) a) read is)
read-step judge header events actor (Unsave g) a read all ok old is = old (if-same (actor_same a actor) (open_read (without_tickets events) a) read is)
read-step judge header events actor (Collect made) a read all ok old is = old (if-same (actor_same a actor) (open_read (without_tickets events) a) read is)

-- in a journal whose events are permitted the file of each open read is an output of an accepted record
pub reads-made : {T : Type 0} (judge : Judge T) (header : Header) (events : List (Event T)) → all_permitted judge header events ≡ true →
    (actor : Actor) (read : OpenRead) → open_read (without_tickets events) actor ≡ Some read → IsOutputOf (records (without_tickets events)) read.file
reads-made judge header [] ok actor read is = absurd (cc)
reads-made judge header (e ∷ events) ok actor read is =
    let parts = and_parts (is_none (broken judge header events e)) (all_permitted judge header events) ok in
    read-step judge header events e.actor e.act actor read (past-made judge header events parts.1).named
    (permitted_of judge header events e parts.0).1 (reads-made judge header events parts.1 actor read) is

-- ---- its task

-- the file of the actor's open read is wanted by whatever table
wants-read : (past : Past) (table : _) (actor : Actor) (read : OpenRead) → actor.0 < 16 → open_read past actor ≡ Some read → is_wanted_by past table read.file ≡ true
wants-read past table actor read known is =
    let reads : reads_file read.file (open_read past actor) ≡ true = ap (reads_file read.file) is ∙ (file_same-Decides read.file read.file).1 refl in
    or-left (is_read past read.file) (is_awaited past table read.file) (among-actors (λ a. reads_file read.file (open_read past a)) actor.0 known reads)

task-of : (past : Past) → IsResting past → (actor : Actor) (read : OpenRead) (o : Option Record) → actor.0 < 16 → open_read past actor ≡ Some read →
    slice_get (records past) read.file.rec.0 ≡ o → has_output o read.file.out ≡ true → is_available past read.file ≡ false →
    (r : Record) × (slice_get (records past) read.file.rec.0 ≡ Some r) × (is_task past (id_of r) ≡ true)
task-of past rest actor read None known is at out missing = absurd (cc)
task-of past rest actor read (Some (kind.Put id)) known is at out missing =
    let small : read.file.out < 1 = ltb-true read.file.out 1 out in
    let first : read.file.out ≡ 0 = omega arith in
    let there : is_available past read.file ≡ true = or-right (is_resident past read.file) (is_saved past read.file) (rest.saves read.file id at first) in
    absurd (let no : true ≡ false = sym there ∙ missing in cc)
task-of past rest actor read (Some (kind.Job id core prio inputs outputs)) known is at out missing =
    let r : Record = kind.Job id core prio inputs outputs in
    let f : FileId = read.file in
    let number : id ≡ record { 0 = f.rec.0 } = rest.numbers f.rec.0 r at in
    let table = downward (task_among past) (after (records past) f.rec.0) in
    let lack : lacks past table f ≡ true = and_from _ _ (wants-read past table actor read known is) (ap not missing) in
    let it : record { rec = id; out = f.out } ≡ f = λ i. record { rec = number i; out = f.out } in
    let small : f.out < outputs = ltb-true f.out outputs out in
    let some : list_any (lacks past table) (outputs_of r) ≡ true =
    any-output (lacks past table) id 0 outputs f.out (ap (lacks past table) it ∙ lack) (omega arith) (omega arith) in
    (r, at, task-at past f.rec.0 r rest.numbers at ∙ or-right (not (was_done past id)) _ some)

-- where the file of an open read isn't available, its record is a task
pub read-is-task : (past : Past) → IsResting past → (actor : Actor) (read : OpenRead) → actor.0 < 16 → open_read past actor ≡ Some read → IsOutputOf (records past) read.file →
    is_available past read.file ≡ false → (r : Record) × (slice_get (records past) read.file.rec.0 ≡ Some r) × (is_task past (id_of r) ≡ true)
read-is-task past rest actor read known is made missing = task-of past rest actor read (slice_get (records past) read.file.rec.0) known is refl made missing

-- in a lawful journal in which nothing runs, a record is next where the file of an open read isn't available
pub waiting-read-has-next : {T : Type 0} (header : Header) (events : List (Event T)) → is_lawful header events ≡ true →
    ((made : RecordId) → is_running (without_tickets events) made ≡ false) → (actor : Actor) (read : OpenRead) →
    open_read (without_tickets events) actor ≡ Some read → is_available (without_tickets events) read.file ≡ false → is_some (next header.order (without_tickets events)) ≡ true
waiting-read-has-next header events lawful idle actor read is missing =
    let past : Past = without_tickets events in
    let rest = lawful-rests header events lawful idle in
    let ok = (and_parts (all_permitted lawful_judge header events) (is_quiet lawful_judge events) lawful).0 in
    let task = read-is-task past rest actor read (reader-known lawful_judge header events ok actor read is) is (reads-made lawful_judge header events ok actor read is) missing in
    resting-next header.order past rest read.file.rec.0 task.0 task.1 task.2

-- in a lawful journal in which nothing runs, the record that is next leaves fewer tasks once it is claimed and done
pub next-leaves-fewer : {T : Type 0} (header : Header) (events : List (Event T)) → is_lawful header events ≡ true →
    ((made : RecordId) → is_running (without_tickets events) made ≡ false) → (actor : Actor) (worker : WorkerId) (made : RecordId) → next header.order (without_tickets events) ≡ Some made →
    length (chosen (tasks (after_done actor worker made (without_tickets events)))) < length (chosen (tasks (without_tickets events)))
next-leaves-fewer header events lawful idle actor worker made is =
    next-and-drops-leave-fewer header events (and_parts (all_permitted lawful_judge header events) (is_quiet lawful_judge events) lawful).0 actor worker made
    (idle-ends-none (without_tickets events) actor worker made idle) is [] [] tt tt
