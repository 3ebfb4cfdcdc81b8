-- What holds of each node that is named, and that a record's inputs are older than the record.
use Rattle.std.proofs.Common.{◌≡◌, ℕ, zero, suc, ◌+◌, ◌<◌, ◌≤◌, Bool, true, false, not, ◌&&◌, ◌||◌, cond, if◌then◌else◌, List, [], ◌∷◌, ◌++◌, length, map, filter, slice_get, Option, Some, None, is_none, refl, sym, ap, subst, arith, length-append}
use Rattle.std.specs.List.{AllByRecursion, list_any}
use Rattle.std.proofs.lemmas.Bool.{and_parts}
use Rattle.tl_types.specs.Same.{path_same, file_same, file_same-Decides}
use Rattle.tl_types.specs.declared.actor.Actor.{Actor}
use Rattle.tl_types.specs.declared.file_id.FileId.{FileId}
use Rattle.tl_types.specs.declared.record_id.RecordId.{RecordId}
use Rattle.tl_model.specs.declared.command.Command.{Command}
use Rattle.tl_model.specs.declared.command.Command.TheVariants.{Put, Job, Read, Delete, Mkdir, Rename, Pin, Unpin, List as list, Stat, Free as free}
use Rattle.tl_model.specs.declared.reply.Reply.{Reply}
use Rattle.tl_model.specs.declared.reply.Reply.TheVariants.{Made, Fine, Opened, Listed, Stated, Exists, NoSuch, NotFile, NotDir, NotEmpty, TooDeep, IntoItself, TooMany}
use Rattle.tl_model.specs.declared.record.Record.{Record}
use Rattle.tl_model.specs.declared.header.Header.{Header}
use Rattle.tl_model.specs.declared.event.Act.{Act}
use Rattle.tl_model.specs.declared.event.Act.TheVariants.{Call, Served, Shut, Claim, Done, Back, Lose, Free, Drop, Load, Save, Saved, Unsave, Collect}
use Rattle.tl_model.specs.declared.event.Event.{Event}
use Rattle.tl_model.specs.Namespace.{PathOf, Node, dir, file, Names, node_at, with_name, without_name, with_pin, with_outputs, is_replaced, moved}
use Rattle.tl_model.specs.Past.{Past, without_tickets}
use Rattle.tl_model.specs.Tables.{better, first_by}
use Rattle.tl_model.specs.Replies.{reply_to, reply_same}
use Rattle.tl_model.specs.Actors.{is_idle, is_running}
use Rattle.tl_model.specs.Residency.{is_available}
use Rattle.tl_model.specs.Plan.{waits_for, is_missing_input}
use Rattle.tl_model.specs.History.{calls_of, names_of, names_after, records_of, record_made, files_at, file_at, with_call, reply_after, id_of, inputs_of, output_count, outputs_of, files_from, has_input}
use Rattle.tl_model.specs.Rules.{Judge, is_permitted, all_permitted, broken, is_client}
use Rattle.tl_laws.proofs.Refusals.{put_made, job_made}
use Rattle.tl_laws.proofs.Permits.{permitted_of}
use Rattle.tl_laws.proofs.Paths.{node-among}
use Rattle.tl_laws.specs.Order.{EachNode, IsBelow, HasOlderInputs, IsOrdered}

-- ---- what holds of all

pub all-map : {A : Type 0} (P Q : A → Type 0) → ((a : A) → P a → Q a) → (xs : List A) → AllByRecursion P xs → AllByRecursion Q xs
all-map P Q f [] h = tt
all-map P Q f (x ∷ xs) h = (f x h.0, all-map P Q f xs h.1)

all-filter-at : {A : Type 0} (P : A → Type 0) (x : A) (rest : List A) (b : Bool) → P x → AllByRecursion P rest → AllByRecursion P (cond b (x ∷ rest) rest)
all-filter-at P x rest true p ps = (p, ps)
all-filter-at P x rest false p ps = ps

pub all-filter : {A : Type 0} (P : A → Type 0) (p : A → Bool) (xs : List A) → AllByRecursion P xs → AllByRecursion P (filter p xs)
all-filter P p [] h = tt
all-filter P p (x ∷ xs) h = all-filter-at P x (filter p xs) (p x) h.0 (all-filter P p xs h.1)

pub all-mapped : {A B : Type 0} (P : A → Type 0) (Q : B → Type 0) (g : A → B) → ((a : A) → P a → Q (g a)) → (xs : List A) → AllByRecursion P xs → AllByRecursion Q (map g xs)
all-mapped P Q g f [] h = tt
all-mapped P Q g f (x ∷ xs) h = (f x h.0, all-mapped P Q g f xs h.1)

pub all-append : {A : Type 0} (P : A → Type 0) (xs ys : List A) → AllByRecursion P xs → AllByRecursion P ys → AllByRecursion P (xs ++ ys)
all-append P [] ys ps qs = qs
all-append P (x ∷ xs) ys ps qs = (ps.0, all-append P xs ys ps.1 qs)

pub all-both : {A : Type 0} (P Q : A → Type 0) (xs : List A) → AllByRecursion P xs → AllByRecursion Q xs → AllByRecursion (λ x. P x × Q x) xs
all-both P Q [] ps qs = tt
all-both P Q (x ∷ xs) ps qs = ((ps.0, qs.0), all-both P Q xs ps.1 qs.1)

passes-at : {A : Type 0} (p : A → Bool) (x : A) (xs : List A) (b : Bool) → p x ≡ b → AllByRecursion (λ y. p y ≡ true) xs → AllByRecursion (λ y. p y ≡ true) (cond b (x ∷ xs) xs)
passes-at p x xs true e all = (e, all)
passes-at p x xs false e all = all

-- each that is kept passes the test
pub all-passes : {A : Type 0} (p : A → Bool) (xs : List A) → AllByRecursion (λ x. p x ≡ true) (filter p xs)
all-passes p [] = tt
all-passes p (x ∷ xs) = passes-at p x (filter p xs) (p x) refl (all-passes p xs)

either-holds : {A : Type 0} (P : A → Type 0) (b : Bool) (s x : A) → P s → P x → P (if b then s else x)
either-holds P true s x p q = p
either-holds P false s x p q = q

better-holds : {A : Type 0} (P : A → Type 0) (before : A → A → Bool) (x : A) (o : Option A) → P x → ((s : A) → o ≡ Some s → P s) → P (better before x o)
better-holds P before x None p later = p
better-holds P before x (Some s) p later = either-holds P (before s x) s x (later s refl) p

-- what holds of all holds of the first by an order
pub first-holds : {A : Type 0} (P : A → Type 0) (before : A → A → Bool) (xs : List A) (s : A) → AllByRecursion P xs → first_by before xs ≡ Some s → P s
first-holds P before [] s all is = absurd (cc)
first-holds P before (x ∷ xs) s all is =
    let it : better before x (first_by before xs) ≡ s = cc in
    subst P it (better-holds P before x (first_by before xs) all.0 (λ t e. first-holds P before xs t all.1 e))

-- ---- names

-- a fact of nodes that directories have, and that a file's pin does not change
pub record NodeFact (P : Node → Type 0) : Type 0 where
  pub of_dir : P dir
  pub of_pin : (f : FileId) (was now : Bool) → P (file f was) → P (file f now)

-- how many files an accepted command makes
abbrev pub files_made : {T : Type 0} → Command T → ℕ
files_made (Put path len digest ticket) = 1
files_made (Job core prio inputs outputs) = length outputs
files_made _ = 0

each-without : (P : Node → Type 0) (path : PathOf) (names : Names) → EachNode P names → EachNode P (without_name names path)
each-without P path names all = all-filter (λ entry. P entry.1) (λ entry. not (path_same path entry.0)) names all

each-outputs : (P : Node → Type 0) (names : Names) (made : RecordId) (k n : ℕ) (outputs : List PathOf) → EachNode P names →
    ((i : ℕ) → i < n → P (file (record { rec = made; out = i }) false)) → k + length outputs ≤ n → EachNode P (with_outputs names made k outputs)
each-outputs P names made k n [] all new few = all
each-outputs P names made k n (path ∷ outputs) all new few =
    let here : k < n = omega arith in
    each-outputs P (with_name names path (file (record { rec = made; out = k }) false)) made (k + 1) n outputs (new k here, each-without P path names all) new (omega arith)

pin-keeps : (P : Node → Type 0) → NodeFact P → (b pinned : Bool) (node : Node) → P node → P (if b then with_pin pinned node else node)
pin-keeps P fact true pinned dir h = h
pin-keeps P fact true pinned (file f was) h = fact.of_pin f was pinned h
pin-keeps P fact false pinned node h = h

pins-keep : (P : Node → Type 0) → NodeFact P → (path : PathOf) (pinned : Bool) (names : Names) → EachNode P names →
    EachNode P (map (λ entry. (entry.0, if path_same path entry.0 then with_pin pinned entry.1 else entry.1)) names)
pins-keep P fact path pinned names all =
    all-mapped (λ entry. P entry.1) (λ entry. P entry.1) (λ entry. (entry.0, if path_same path entry.0 then with_pin pinned entry.1 else entry.1))
    (λ entry h. pin-keeps P fact (path_same path entry.0) pinned entry.1 h) names all

-- what holds of each node that is named, and of each file that an accepted command makes, holds of each after the call
pub each-after : {T : Type 0} (P : Node → Type 0) → NodeFact P → (reply : Reply) (command : Command T) (names : Names) → EachNode P names →
    ((made : RecordId) (i : ℕ) → reply ≡ Made made → i < files_made command → P (file (record { rec = made; out = i }) false)) →
    EachNode P (names_after reply command names)
each-after P fact (Made made) (Put path len digest ticket) names all new =
    (new made 0 refl (let h : 0 < 1 = omega arith in h), each-without P path names all)
each-after P fact (Made made) (Job core prio inputs outputs) names all new =
    let few : 0 + length outputs ≤ length outputs = omega arith in
    each-outputs P names made 0 (length outputs) outputs all (λ i h. new made i refl h) few
each-after P fact (Made made) (Read path prio form) names all new = all
each-after P fact (Made made) (Delete path) names all new = all
each-after P fact (Made made) (Mkdir path) names all new = all
each-after P fact (Made made) (Rename from to) names all new = all
each-after P fact (Made made) (Pin path) names all new = all
each-after P fact (Made made) (Unpin path) names all new = all
each-after P fact (Made made) (list path) names all new = all
each-after P fact (Made made) (Stat path) names all new = all
each-after P fact (Made made) (free path) names all new = all
each-after P fact Fine (Put path len digest ticket) names all new = all
each-after P fact Fine (Job core prio inputs outputs) names all new = all
each-after P fact Fine (Read path prio form) names all new = all
each-after P fact Fine (Delete path) names all new = each-without P path names all
each-after P fact Fine (Mkdir path) names all new = (fact.of_dir, each-without P path names all)
each-after P fact Fine (Rename from to) names all new = all-mapped (λ entry. P entry.1) (λ entry. P entry.1) (λ entry. (moved from to entry.0, entry.1)) (λ entry h. h)
    (filter (λ entry. not (is_replaced names from to entry.0)) names) (all-filter (λ entry. P entry.1) (λ entry. not (is_replaced names from to entry.0)) names all)
each-after P fact Fine (Pin path) names all new = pins-keep P fact path true names all
each-after P fact Fine (Unpin path) names all new = pins-keep P fact path false names all
each-after P fact Fine (list path) names all new = all
each-after P fact Fine (Stat path) names all new = all
each-after P fact Fine (free path) names all new = all
each-after P fact (Opened g) command names all new = all
each-after P fact (Listed entries) command names all new = all
each-after P fact (Stated s) command names all new = all
each-after P fact Exists command names all new = all
each-after P fact NoSuch command names all new = all
each-after P fact NotFile command names all new = all
each-after P fact NotDir command names all new = all
each-after P fact NotEmpty command names all new = all
each-after P fact TooDeep command names all new = all
each-after P fact IntoItself command names all new = all
each-after P fact TooMany command names all new = all

-- ---- older inputs

below-fact : (n : ℕ) → NodeFact (IsBelow n)
below-fact n = record { of_dir = tt; of_pin = λ f was now h. h }

below-more : (n m : ℕ) (node : Node) → n ≤ m → IsBelow n node → IsBelow m node
below-more n m dir le h = tt
below-more n m (file f pinned) le h = omega arith

file-below : (n : ℕ) (names : Names) (path : PathOf) (o : Option Node) (files : List FileId) → node_at names path ≡ o → EachNode (IsBelow n) names →
    AllByRecursion (λ f. f.rec.0 < n) files → AllByRecursion (λ f. f.rec.0 < n) (file_at o files)
file-below n names path None files e all h = h
file-below n names path (Some dir) files e all h = h
file-below n names path (Some (file f pinned)) files e all h = (node-among (IsBelow n) names path (file f pinned) all e, h)

files-below : (n : ℕ) (names : Names) (paths : List PathOf) → EachNode (IsBelow n) names → AllByRecursion (λ f. f.rec.0 < n) (files_at names paths)
files-below n names [] all = tt
files-below n names (path ∷ paths) all = file-below n names path (node_at names path) (files_at names paths) refl all (files-below n names paths all)

made-number : {T : Type 0} (reply : Reply) (command : Command T) (names : Names) (n : ℕ) (made : RecordId) (i : ℕ) → reply_same (reply_to names n command) reply ≡ true →
    reply ≡ Made made → i < files_made command → made.0 < n + length (record_made reply command names)
made-number (Made other) (Put path len digest ticket) names n made i same is h =
    let at : other.0 ≡ n = ap (λ (r : RecordId). r.0) (put_made names n path len digest ticket other same) in
    let it : other ≡ made = cc in
    let also : other.0 ≡ made.0 = ap (λ (r : RecordId). r.0) it in
    omega arith
made-number {T} (Made other) (Job core prio inputs outputs) names n made i same is h =
    let at : other.0 ≡ n = ap (λ (r : RecordId). r.0) (job_made T names n core prio inputs outputs other same) in
    let it : other ≡ made = cc in
    let also : other.0 ≡ made.0 = ap (λ (r : RecordId). r.0) it in
    omega arith
made-number (Made other) (Read path prio form) names n made i same is h = absurd (omega arith)
made-number (Made other) (Delete path) names n made i same is h = absurd (omega arith)
made-number (Made other) (Mkdir path) names n made i same is h = absurd (omega arith)
made-number (Made other) (Rename from to) names n made i same is h = absurd (omega arith)
made-number (Made other) (Pin path) names n made i same is h = absurd (omega arith)
made-number (Made other) (Unpin path) names n made i same is h = absurd (omega arith)
made-number (Made other) (list path) names n made i same is h = absurd (omega arith)
made-number (Made other) (Stat path) names n made i same is h = absurd (omega arith)
made-number (Made other) (free path) names n made i same is h = absurd (omega arith)
made-number Fine command names n made i same is h = absurd (cc)
made-number (Opened g) command names n made i same is h = absurd (cc)
made-number (Listed entries) command names n made i same is h = absurd (cc)
made-number (Stated s) command names n made i same is h = absurd (cc)
made-number Exists command names n made i same is h = absurd (cc)
made-number NoSuch command names n made i same is h = absurd (cc)
made-number NotFile command names n made i same is h = absurd (cc)
made-number NotDir command names n made i same is h = absurd (cc)
made-number NotEmpty command names n made i same is h = absurd (cc)
made-number TooDeep command names n made i same is h = absurd (cc)
made-number IntoItself command names n made i same is h = absurd (cc)
made-number TooMany command names n made i same is h = absurd (cc)

made-older : {T : Type 0} (reply : Reply) (command : Command T) (names : Names) (n : ℕ) → EachNode (IsBelow n) names → reply_same (reply_to names n command) reply ≡ true →
    AllByRecursion HasOlderInputs (record_made reply command names)
made-older (Made made) (Put path len digest ticket) names n all same = (tt, tt)
made-older {T} (Made made) (Job core prio inputs outputs) names n all same =
    let at : made.0 ≡ n = ap (λ (r : RecordId). r.0) (job_made T names n core prio inputs outputs made same) in
    (subst (λ (k : ℕ). AllByRecursion (λ f. f.rec.0 < k) (files_at names inputs)) (sym at) (files-below n names inputs all), tt)
made-older (Made made) (Read path prio form) names n all same = tt
made-older (Made made) (Delete path) names n all same = tt
made-older (Made made) (Mkdir path) names n all same = tt
made-older (Made made) (Rename from to) names n all same = tt
made-older (Made made) (Pin path) names n all same = tt
made-older (Made made) (Unpin path) names n all same = tt
made-older (Made made) (list path) names n all same = tt
made-older (Made made) (Stat path) names n all same = tt
made-older (Made made) (free path) names n all same = tt
made-older Fine command names n all same = tt
made-older (Opened g) command names n all same = tt
made-older (Listed entries) command names n all same = tt
made-older (Stated s) command names n all same = tt
made-older Exists command names n all same = tt
made-older NoSuch command names n all same = tt
made-older NotFile command names n all same = tt
made-older NotDir command names n all same = tt
made-older NotEmpty command names n all same = tt
made-older TooDeep command names n all same = tt
made-older IntoItself command names n all same = tt
made-older TooMany command names n all same = tt

call-orders : {T : Type 0} (reply : Reply) (command : Command T) (names : Names) (rs : List Record) → IsOrdered names rs →
    reply_same (reply_to names (length rs) command) reply ≡ true → IsOrdered (names_after reply command names) (rs ++ record_made reply command names)
call-orders reply command names rs ordered same =
    let n : ℕ = length rs in
    let more : ℕ = length (record_made reply command names) in
    let longer : length (rs ++ record_made reply command names) ≡ n + more = length-append rs (record_made reply command names) in
    let le : n ≤ n + more = omega arith in
    record {
      named = subst (λ (k : ℕ). EachNode (IsBelow k) (names_after reply command names)) (sym longer)
          (each-after (IsBelow (n + more)) (below-fact (n + more)) reply command names
          (all-map (λ entry. IsBelow n entry.1) (λ entry. IsBelow (n + more) entry.1) (λ entry h. below-more n (n + more) entry.1 le h) names ordered.named)
          (λ made i is h. made-number reply command names n made i same is h));
      older = all-append HasOlderInputs rs (record_made reply command names) ordered.older (made-older reply command names n ordered.named same);
    }

act-orders : {T : Type 0} (judge : Judge T) (header : Header) (events : List (Event T)) (past : Past) (actor : Actor) (act : Act T) →
    IsOrdered (names_of (calls_of events)) (records_of (calls_of events)) → is_permitted judge header events past actor act ≡ true →
    IsOrdered (names_of (with_call actor act (calls_of events))) (records_of (with_call actor act (calls_of events)))
act-orders judge header events past actor (Call command reply) ordered ok =
    call-orders reply command (names_of (calls_of events)) (records_of (calls_of events)) ordered
    (and_parts (is_client actor && is_idle past actor && judge.put_fits command) (reply_same (reply_after (calls_of events) command) reply) ok).1
act-orders judge header events past actor (Served f digest) ordered ok = ordered
act-orders judge header events past actor (Shut f) ordered ok = ordered
act-orders judge header events past actor (Claim worker made) ordered ok = ordered
act-orders judge header events past actor (Done worker made) ordered ok = ordered
act-orders judge header events past actor (Back made) ordered ok = ordered
act-orders judge header events past actor (Lose worker) ordered ok = ordered
act-orders judge header events past actor (Free f) ordered ok = ordered
act-orders judge header events past actor (Drop worker f) ordered ok = ordered
act-orders judge header events past actor (Load worker f) ordered ok = ordered
act-orders judge header events past actor (Save f) ordered ok = ordered
act-orders judge header events past actor (Saved f size digest) ordered ok = ordered
act-orders judge header events past actor (Unsave f) ordered ok = ordered
act-orders judge header events past actor (Collect made) ordered ok = ordered

-- in a journal whose events are permitted names are of accepted records, and inputs are of older ones
pub all-ordered : {T : Type 0} (judge : Judge T) (header : Header) (events : List (Event T)) → all_permitted judge header events ≡ true →
    IsOrdered (names_of (calls_of events)) (records_of (calls_of events))
all-ordered judge header [] ok = record { named = (tt, tt); older = tt }
all-ordered judge header (e ∷ events) ok =
    let parts = and_parts (is_none (broken judge header events e)) (all_permitted judge header events) ok in
    act-orders judge header events (without_tickets events) e.actor e.act (all-ordered judge header events parts.1)
    (permitted_of judge header events e parts.0).1

-- ---- waiting

any-at : (P : FileId → Type 0) (f x : FileId) (rest : List FileId) (b : Bool) → file_same f x ≡ b → P x → (list_any (file_same f) rest ≡ true → P f) → (b || list_any (file_same f) rest) ≡ true → P f
any-at P f x rest true e p later is = subst P (sym ((file_same-Decides f x).0 e)) p
any-at P f x rest false e p later is = later is

-- what holds of each file of a list holds of a file that is among them
pub among-holds : (P : FileId → Type 0) (f : FileId) (fs : List FileId) → AllByRecursion P fs → list_any (file_same f) fs ≡ true → P f
among-holds P f [] all is = absurd (cc)
among-holds P f (x ∷ fs) all is = any-at P f x fs (file_same f x) refl all.0 (among-holds P f fs all.1) is

from-at : (p : FileId → Bool) (id : RecordId) (k n : ℕ) (b : Bool) → p (record { rec = id; out = k }) ≡ b →
    (list_any p (files_from id (k + 1) n) ≡ true → (f : FileId) × (p f ≡ true) × (f.rec ≡ id)) →
    (b || list_any p (files_from id (k + 1) n)) ≡ true → (f : FileId) × (p f ≡ true) × (f.rec ≡ id)
from-at p id k n true e later is = (record { rec = id; out = k }, e, refl)
from-at p id k n false e later is = later is

-- a file with the property among a record's outputs
pub output-with : (p : FileId → Bool) (id : RecordId) (k n : ℕ) → list_any p (files_from id k n) ≡ true → (f : FileId) × (p f ≡ true) × (f.rec ≡ id)
output-with p id k zero is = absurd (cc)
output-with p id k (suc n) is = from-at p id k n (p (record { rec = id; out = k })) refl (output-with p id (k + 1) n) is

-- who waits has a greater number
pub waits-older : (past : Past) (reader maker : Record) → HasOlderInputs reader → waits_for past reader maker ≡ true → (id_of maker).0 < (id_of reader).0
waits-older past reader maker older waits =
    let parts = and_parts (not (is_running past (id_of reader))) (list_any (is_missing_input past reader) (outputs_of maker)) waits in
    let at = output-with (is_missing_input past reader) (id_of maker) 0 (output_count maker) parts.1 in
    let reads = (and_parts (has_input at.0 reader) (not (is_available past at.0)) at.1).0 in
    let less : at.0.rec.0 < (id_of reader).0 = among-holds (λ f. f.rec.0 < (id_of reader).0) at.0 (inputs_of reader) older reads in
    subst (λ (r : RecordId). r.0 < (id_of reader).0) at.2 less

pub all-get : {A : Type 0} (P : A → Type 0) (xs : List A) (i : ℕ) (x : A) → AllByRecursion P xs → slice_get xs i ≡ Some x → P x
all-get P [] i x all is = absurd (cc)
all-get P (y ∷ ys) zero x all is = let same : y ≡ x = cc in subst P same all.0
all-get P (y ∷ ys) (suc i) x all is = all-get P ys i x all.1 is
