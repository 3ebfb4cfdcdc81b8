-- All that a journal speaks of was accepted, where its events are permitted.
use Rattle.std.proofs.Common.{◌≡◌, ℕ, ◌<◌, Bool, true, false, ◌&&◌, ◌||◌, not, if◌then◌else◌, List, [], ◌∷◌, ◌++◌, length, filter, slice_get, Option, Some, None, is_some, is_none, refl, sym, ap, ◌∙◌, subst, arith, length-append, ◌+◌}
use Rattle.std.specs.List.{AllByRecursion, list_any}
use Rattle.std.proofs.lemmas.Bool.{and_parts}
use Rattle.tl_types.specs.Same.{actor_same, file_same, record_same, file_same-Decides, record_same-Decides}
use Rattle.tl_types.specs.declared.actor.Actor.{Actor}
use Rattle.tl_types.specs.declared.file_id.FileId.{FileId}
use Rattle.tl_types.specs.declared.record_id.RecordId.{RecordId}
use Rattle.tl_types.specs.declared.worker_id.WorkerId.{WorkerId}
use Rattle.tl_model.specs.declared.command.Command.{Command}
use Rattle.tl_model.specs.declared.command.Command.TheVariants.{Put, Job, Read, Delete, Mkdir, Rename, Pin, Unpin, List as list, Stat, Free as free}
use Rattle.tl_model.specs.declared.reply.Reply.{Reply}
use Rattle.tl_model.specs.declared.reply.Reply.TheVariants.{Made, Fine, Opened, Listed, Stated, Exists, NoSuch, NotFile, NotDir, NotEmpty, TooDeep, IntoItself, TooMany}
use Rattle.tl_model.specs.declared.record.Record.{Record}
use Rattle.tl_model.specs.declared.record.Record.TheVariants as kind
use Rattle.tl_model.specs.declared.header.Header.{Header}
use Rattle.tl_model.specs.declared.event.Act.{Act}
use Rattle.tl_model.specs.declared.event.Act.TheVariants.{Call, Served, Shut, Claim, Done, Back, Lose, Free, Drop, Load, Save, Saved, Unsave, Collect}
use Rattle.tl_model.specs.declared.event.Event.{Event}
use Rattle.tl_model.specs.Namespace.{Node, dir, file, Names}
use Rattle.tl_model.specs.Past.{Past, act_with, without_tickets}
use Rattle.tl_model.specs.Tables.{sort_by, put_by}
use Rattle.tl_model.specs.History.{inputs_of, names, records, record_at, record_made, has_output, is_output, is_file_node, is_named, files}
use Rattle.tl_model.specs.Actors.{OpenClaim, open_claim, open_save, is_on, is_idle, is_being_saved, saves_file, open_read, reads_file}
use Rattle.tl_model.specs.Residency.{is_at, is_saved, is_resident, place, place_after, saved_as, was_done, reads, claim_reads, reads_of_claim}
use Rattle.tl_model.specs.Plan.{next}
use Rattle.tl_model.specs.Eviction.{first_of}
use Rattle.tl_model.specs.Checkpoints.{can_be_saved, is_leaf, is_hot, done_sooner, read_more, leaves, hot_files, edge, next_save}
use Rattle.tl_model.specs.Rules.{Judge, all_permitted, broken, is_file, is_record, is_known_worker, is_open_on, is_permitted, may_claim, follows_put, is_put_of, made_by_put}
use Rattle.tl_laws.proofs.Permits.{permitted_of}
use Rattle.tl_laws.specs.Numbers.{Numbered}
use Rattle.tl_laws.proofs.Numbering.{all-numbered, get-last, get-within}
use Rattle.tl_laws.proofs.Tickets.{records-with}
use Rattle.tl_laws.specs.Made.{IsMade, IsMadeOf, IsOutputOf, HasMadeInputs}
use Rattle.tl_laws.proofs.Made.{output-stays, past-made}
use Rattle.tl_laws.specs.Order.{EachNode}
use Rattle.tl_laws.proofs.Order.{all-get, among-holds}
use Rattle.tl_laws.proofs.Next.{next-is}
use Rattle.tl_steps.specs.Within.{IsWithin}

-- ---- what is saved next is named, and so was made

named-same : (rs : List Record) (f g : FileId) (rest b : Bool) → file_same f g ≡ b → IsOutputOf rs g → (rest ≡ true → IsOutputOf rs f) → (b || rest) ≡ true → IsOutputOf rs f
named-same rs f g rest true e here later found = subst (IsOutputOf rs) (sym ((file_same-Decides f g).0 e)) here
named-same rs f g rest false e here later found = later found

named-at : (rs : List Record) (f : FileId) (node : Node) (rest : Bool) → IsMade rs node → (rest ≡ true → IsOutputOf rs f) → (is_file_node f node || rest) ≡ true → IsOutputOf rs f
named-at rs f dir rest here later found = later found
named-at rs f (file g pinned) rest here later found = named-same rs f g rest (file_same f g) refl here later found

named-made : (rs : List Record) (ns : Names) (f : FileId) → EachNode (IsMade rs) ns → list_any (λ entry. is_file_node f entry.1) ns ≡ true → IsOutputOf rs f
named-made rs [] f all is = absurd (cc)
named-made rs (entry ∷ ns) f all is =
    named-at rs f entry.1 (list_any (λ entry. is_file_node f entry.1) ns) all.0 (λ found. named-made rs ns f all.1 found) is

abbrev can-save : Past → FileId → Type 0
can-save past f = can_be_saved past f ≡ true

keep-if : (P : FileId → Type 0) (f : FileId) (fs : List FileId) (b : Bool) → (b ≡ true → P f) → AllByRecursion P fs → AllByRecursion P (if b then f ∷ fs else fs)
keep-if P f fs true here all = (here refl, all)
keep-if P f fs false here all = all

kept-passes : (past : Past) (p : FileId → Bool) (fs : List FileId) → ((f : FileId) → p f ≡ true → can-save past f) → AllByRecursion (can-save past) (filter p fs)
kept-passes past p [] h = tt
kept-passes past p (f ∷ fs) h = keep-if (can-save past) f (filter p fs) (p f) (h f) (kept-passes past p fs h)

put-if : (P : FileId → Type 0) (before : FileId → FileId → Bool) (f g : FileId) (fs : List FileId) (b : Bool) → P f → P g → AllByRecursion P fs → AllByRecursion P (put_by before f fs) →
    AllByRecursion P (if b then g ∷ put_by before f fs else f ∷ g ∷ fs)
put-if P before f g fs true here there all put = (there, put)
put-if P before f g fs false here there all put = (here, (there, all))

put-all : (P : FileId → Type 0) (before : FileId → FileId → Bool) (f : FileId) (fs : List FileId) → P f → AllByRecursion P fs → AllByRecursion P (put_by before f fs)
put-all P before f [] here all = (here, tt)
put-all P before f (g ∷ fs) here all = put-if P before f g fs (before g f) here all.0 all.1 (put-all P before f fs here all.1)

sort-all : (P : FileId → Type 0) (before : FileId → FileId → Bool) (fs : List FileId) → AllByRecursion P fs → AllByRecursion P (sort_by before fs)
sort-all P before [] all = tt
sort-all P before (f ∷ fs) all = put-all P before f (sort_by before fs) all.0 (sort-all P before fs all.1)

append-all : (P : FileId → Type 0) (xs ys : List FileId) → AllByRecursion P xs → AllByRecursion P ys → AllByRecursion P (xs ++ ys)
append-all P [] ys left right = right
append-all P (x ∷ xs) ys left right = (left.0, append-all P xs ys left.1 right)

pub first-has : (P : FileId → Type 0) (xs : List FileId) (f : FileId) → AllByRecursion P xs → first_of xs ≡ Some f → P f
first-has P [] f all is = absurd (cc)
first-has P (x ∷ xs) f all is = let same : x ≡ f = cc in subst P same all.0

pub edge-all : (header : Header) (past : Past) → AllByRecursion (can-save past) (edge header past)
edge-all header past =
    append-all (can-save past) (leaves past) (hot_files header past)
    (sort-all (can-save past) (done_sooner past) (filter (λ f. can_be_saved past f && is_leaf past f) (files past))
    (kept-passes past (λ f. can_be_saved past f && is_leaf past f) (files past) (λ f e. (and_parts (can_be_saved past f) (is_leaf past f) e).0)))
    (sort-all (can-save past) (read_more past) (filter (λ f. can_be_saved past f && not (is_leaf past f) && is_hot header past f) (files past))
    (kept-passes past (λ f. can_be_saved past f && not (is_leaf past f) && is_hot header past f) (files past)
    (λ f e. (and_parts (can_be_saved past f) (not (is_leaf past f)) (and_parts (can_be_saved past f && not (is_leaf past f)) (is_hot header past f) e).0).0)))

pub is-that : (o : Option FileId) (f : FileId) → is_file o f ≡ true → o ≡ Some f
is-that None f is = absurd (cc)
is-that (Some g) f is = ap Some ((file_same-Decides g f).0 is)

next-made : (header : Header) (past : Past) (f : FileId) → IsMadeOf (names past) (records past) → is_file (next_save header past) f ≡ true → IsOutputOf (records past) f
next-made header past f made is =
    let can = first-has (can-save past) (edge header past) f (edge-all header past) (is-that (next_save header past) f is) in
    named-made (records past) (names past) f made.named
    (and_parts (is_named past f) (is_resident past f)
    (and_parts (is_named past f && is_resident past f) (not (is_saved past f))
    (and_parts (is_named past f && is_resident past f && not (is_saved past f)) (not (is_being_saved past f)) can).0).0).0

-- ---- a put's file

put-made : (past : Past) (made : RecordId) (f : FileId) (n : ℕ) → Numbered (records past) → slice_get (records past) n ≡ Some (kind.Put made) →
    f ≡ record { rec = made; out = 0 } → IsOutputOf (records past) f
put-made past made f n numbered at is =
    let id : made ≡ record { 0 = n } = numbered n (kind.Put made) at in
    let place : slice_get (records past) made.0 ≡ Some (kind.Put made) = ap (λ (r : RecordId). slice_get (records past) r.0) id ∙ at in
    subst (IsOutputOf (records past)) (sym is) (ap (λ o. has_output o 0) place)

by-put : (actor : Actor) (reply : Reply) (command : Command (Unit {0})) (past : Past) (f : FileId) → Numbered (records (record { actor = actor; act = Call command reply } ∷ past)) →
    made_by_put reply command f ≡ true → IsOutputOf (records (record { actor = actor; act = Call command reply } ∷ past)) f
by-put actor (Made made) (Put path len digest ticket) past f numbered is =
    put-made (record { actor = actor; act = Call (Put path len digest ticket) (Made made) } ∷ past) made f (length (records past)) numbered
    (get-last (records past) (kind.Put made) (length (records past)) refl)
    ((file_same-Decides f (record { rec = made; out = 0 })).0 is)
by-put actor (Made made) (Job core prio inputs outputs) past f numbered is = absurd (cc)
by-put actor (Made made) (Read path prio form) past f numbered is = absurd (cc)
by-put actor (Made made) (Delete path) past f numbered is = absurd (cc)
by-put actor (Made made) (Mkdir path) past f numbered is = absurd (cc)
by-put actor (Made made) (Rename from to) past f numbered is = absurd (cc)
by-put actor (Made made) (Pin path) past f numbered is = absurd (cc)
by-put actor (Made made) (Unpin path) past f numbered is = absurd (cc)
by-put actor (Made made) (list path) past f numbered is = absurd (cc)
by-put actor (Made made) (Stat path) past f numbered is = absurd (cc)
by-put actor (Made made) (free path) past f numbered is = absurd (cc)
by-put actor Fine command past f numbered is = absurd (cc)
by-put actor (Opened g) command past f numbered is = absurd (cc)
by-put actor (Listed entries) command past f numbered is = absurd (cc)
by-put actor (Stated status) command past f numbered is = absurd (cc)
by-put actor Exists command past f numbered is = absurd (cc)
by-put actor NoSuch command past f numbered is = absurd (cc)
by-put actor NotFile command past f numbered is = absurd (cc)
by-put actor NotDir command past f numbered is = absurd (cc)
by-put actor NotEmpty command past f numbered is = absurd (cc)
by-put actor TooDeep command past f numbered is = absurd (cc)
by-put actor IntoItself command past f numbered is = absurd (cc)
by-put actor TooMany command past f numbered is = absurd (cc)

put-act : (before : Actor) (act : Act (Unit {0})) (past : Past) (f : FileId) → Numbered (records (record { actor = before; act = act } ∷ past)) →
    is_put_of act f ≡ true → IsOutputOf (records (record { actor = before; act = act } ∷ past)) f
put-act before (Call command reply) past f numbered is = by-put before reply command past f numbered is
put-act before (Served g digest) past f numbered is = absurd (cc)
put-act before (Shut g) past f numbered is = absurd (cc)
put-act before (Claim worker made) past f numbered is = absurd (cc)
put-act before (Done worker made) past f numbered is = absurd (cc)
put-act before (Back made) past f numbered is = absurd (cc)
put-act before (Lose worker) past f numbered is = absurd (cc)
put-act before (Free g) past f numbered is = absurd (cc)
put-act before (Drop worker g) past f numbered is = absurd (cc)
put-act before (Load worker g) past f numbered is = absurd (cc)
put-act before (Save g) past f numbered is = absurd (cc)
put-act before (Saved g size digest) past f numbered is = absurd (cc)
put-act before (Unsave g) past f numbered is = absurd (cc)
put-act before (Collect made) past f numbered is = absurd (cc)

follows-made : (past : Past) (actor : Actor) (f : FileId) → Numbered (records past) → follows_put past actor f ≡ true → IsOutputOf (records past) f
follows-made [] actor f numbered is = absurd (cc)
follows-made (e ∷ past) actor f numbered is = put-act e.actor e.act past f numbered (and_parts (actor_same e.actor actor) (is_put_of e.act f) is).1

or-cases : (a b : Bool) (P : Type 0) → (a || b) ≡ true → (a ≡ true → P) → (b ≡ true → P) → P
or-cases true b P is left right = left refl
or-cases false b P is left right = right is

pub saves-that : (f : FileId) (o : Option FileId) → saves_file f o ≡ true → o ≡ Some f
saves-that f None is = absurd (cc)
saves-that f (Some g) is = ap Some (sym ((file_same-Decides f g).0 is))

-- ---- one event

pub same-either : {A : Type 0} (b : Bool) (x : Option A) (y : A) → (if b then x else x) ≡ Some y → x ≡ Some y
same-either true x y is = is
same-either false x y is = is

pub none-or : {A : Type 0} (b : Bool) (x : Option A) (y : A) → (if b then None else x) ≡ Some y → x ≡ Some y
none-or true x y is = absurd (cc)
none-or false x y is = is

some-unless : {A : Type 0} (b : Bool) (x : Option A) → is_some (if b then None else x) ≡ true → is_some x ≡ true
some-unless true x is = absurd (cc)
some-unless false x is = is

some-or : {A : Type 0} (P : Type 0) (b : Bool) (x : A) (before : Option A) → (b ≡ true → P) → (is_some before ≡ true → P) → is_some (if b then Some x else before) ≡ true → P
some-or P true x before new old is = new refl
some-or P false x before new old is = old is

new-or : {A : Type 0} (P : A → Type 0) (b : Bool) (x : A) (before : Option A) (y : A) → P x → (before ≡ Some y → P y) → (if b then Some x else before) ≡ Some y → P y
new-or P true x before y new old is = let same : x ≡ y = cc in subst P same new
new-or P false x before y new old is = old is

opened-on : (o : Option OpenClaim) (worker : WorkerId) (made : RecordId) (n : ℕ) → is_open_on o worker made ≡ true → ((claim : OpenClaim) → o ≡ Some claim → claim.made.0 < n) → made.0 < n
opened-on None worker made n is h = absurd (cc)
opened-on (Some claim) worker made n is h =
    let same : claim.made ≡ made = (record_same-Decides claim.made made).0 (and_parts _ (record_same claim.made made) is).1 in
    subst (λ (r : RecordId). r.0 < n) same (h claim refl)

is-next : (o : Option RecordId) (made : RecordId) → is_record o made ≡ true → o ≡ Some made
is-next None made is = absurd (cc)
is-next (Some other) made is = ap Some ((record_same-Decides other made).0 is)

done-places : (past : Past) (worker : WorkerId) (made : RecordId) (f : FileId) (here : Option WorkerId) → (is_some here ≡ true → IsOutputOf (records past) f) →
    is_some (place_after past (Done worker made) f here) ≡ true → IsOutputOf (records past) f
done-places past worker made f (Some w) old is = old refl
done-places past worker made f None old is =
    some-or (IsOutputOf (records past) f) (is_output past f made) worker None
    (λ e. let parts = and_parts (record_same f.rec made) (has_output (record_at past made) f.out) e in
    ap (λ (r : RecordId). has_output (record_at past r) f.out) ((record_same-Decides f.rec made).0 parts.0) ∙ parts.1)
    (λ e. absurd (cc)) is

longer : (rs more : List Record) (n : ℕ) → n < length rs → n < length (rs ++ more)
longer rs more n h = omega (arith, length-append rs more)

-- what a claim reads was made
claim-made : (past : Past) (f : FileId) (made : RecordId) (o : Option Record) → record_at past made ≡ o → AllByRecursion (HasMadeInputs (records past)) (records past) →
    claim_reads past f o ≡ true → IsOutputOf (records past) f
claim-made past f made None at all is = absurd (cc)
claim-made past f made (Some r) at all is =
    among-holds (IsOutputOf (records past)) f (inputs_of r) (all-get (HasMadeInputs (records past)) (records past) made.0 r all at) is

still-unread : (b : Bool) (n : ℕ) → (b ≡ true → ⊥) → n ≡ 0 → (if b then n + 1 else n) ≡ 0
still-unread true n never none = absurd (never refl)
still-unread false n never none = none

-- what was accepted by a call stays
calls-within : (past : Past) (actor : Actor) (command : Command (Unit {0})) (reply : Reply) → IsWithin past →
    IsMadeOf (names (record { actor = actor; act = Call command reply } ∷ past)) (records (record { actor = actor; act = Call command reply } ∷ past)) →
    Numbered (records (record { actor = actor; act = Call command reply } ∷ past)) → IsWithin (record { actor = actor; act = Call command reply } ∷ past)
calls-within past actor command reply known made numbered =
    let more = record_made reply command (names past) in
    record {
      numbered = numbered;
      inputs = made.inputs;
      placed = λ f is. output-stays (records past) more f (known.placed f is);
      saved = λ f is. output-stays (records past) more f (known.saved f is);
      saves = λ a f is. output-stays (records past) more f (known.saves a f (same-either (actor_same a actor) (open_save past a) f is));
      claims = λ a claim is. longer (records past) more claim.made.0 (known.claims a claim (same-either (actor_same a actor) (open_claim past a) claim is));
      done = λ m is. longer (records past) more m.0 (known.done m is);
      unread = λ f never. known.unread f (λ is. never (output-stays (records past) more f is));
    }

-- open saves and claims after an act that opens none
abbrev SavesStay : Past → Actor → Type 0
SavesStay past actor = (a : Actor) (f : FileId) → (if actor_same a actor then open_save past a else open_save past a) ≡ Some f → IsOutputOf (records past) f

abbrev ClaimsStay : Past → Actor → Type 0
ClaimsStay past actor = (a : Actor) (claim : OpenClaim) → (if actor_same a actor then open_claim past a else open_claim past a) ≡ Some claim → claim.made.0 < length (records past)

saves-stay : (past : Past) (actor : Actor) → IsWithin past → SavesStay past actor
saves-stay past actor known a f is = known.saves a f (same-either (actor_same a actor) (open_save past a) f is)

claims-stay : (past : Past) (actor : Actor) → IsWithin past → ClaimsStay past actor
claims-stay past actor known a claim is = known.claims a claim (same-either (actor_same a actor) (open_claim past a) claim is)

abbrev SavesEnd : Past → Actor → Type 0
SavesEnd past actor = (a : Actor) (f : FileId) → (if actor_same a actor then None else open_save past a) ≡ Some f → IsOutputOf (records past) f

abbrev ClaimsEnd : Past → Actor → Type 0
ClaimsEnd past actor = (a : Actor) (claim : OpenClaim) → (if actor_same a actor then None else open_claim past a) ≡ Some claim → claim.made.0 < length (records past)

saves-end : (past : Past) (actor : Actor) → IsWithin past → SavesEnd past actor
saves-end past actor known a f is = known.saves a f (none-or (actor_same a actor) (open_save past a) f is)

claims-end : (past : Past) (actor : Actor) → IsWithin past → ClaimsEnd past actor
claims-end past actor known a claim is = known.claims a claim (none-or (actor_same a actor) (open_claim past a) claim is)

-- an event that a rule permits
act-within : {T : Type 0} (judge : Judge T) (header : Header) (events : List (Event T)) (past : Past) (actor : Actor) (act : Act T) →
    IsWithin past → IsMadeOf (names past) (records past) →
    IsMadeOf (names (record { actor = actor; act = act_with {U = Unit {0}} (λ _. tt) act } ∷ past)) (records (record { actor = actor; act = act_with {U = Unit {0}} (λ _. tt) act } ∷ past)) →
    Numbered (records (record { actor = actor; act = act_with {U = Unit {0}} (λ _. tt) act } ∷ past)) →
    is_permitted judge header events past actor act ≡ true → IsWithin (record { actor = actor; act = act_with {U = Unit {0}} (λ _. tt) act } ∷ past)
act-within judge header events past actor (Call command reply) known was made numbered ok = calls-within past actor _ reply known made numbered
act-within judge header events past actor (Served g digest) known was made numbered ok = record {
  numbered = numbered;
  inputs = made.inputs;
  unread = λ f never. still-unread (file_same f g) (reads past f)
      (λ e. never (subst (IsOutputOf (records past)) (sym ((file_same-Decides f g).0 e))
      (known.placed g (and_parts (reads_file g (open_read past actor)) (is_resident past g) (and_parts (reads_file g (open_read past actor) && is_resident past g) _ ok).0).1)))
      (known.unread f never);
  placed = known.placed;
  saved = known.saved;
  done = known.done;
  saves = saves-stay past actor known;
  claims = claims-stay past actor known;
}
act-within judge header events past actor (Shut g) known was made numbered ok = record {
  numbered = numbered;
  inputs = made.inputs;
  unread = known.unread;
  placed = known.placed;
  saved = known.saved;
  done = known.done;
  saves = saves-stay past actor known;
  claims = claims-stay past actor known;
}
act-within judge header events past actor (Claim worker m) known was made numbered ok =
    let following = next-is header.order past m
    (is-next (next header.order past) m (and_parts (is_known_worker header worker && may_claim past actor) (is_record (next header.order past) m) ok).1) known.numbered in
    record {
      numbered = numbered;
      inputs = made.inputs;
      unread = λ f never. still-unread (reads_of_claim past f m) (reads past f) (λ e. never (claim-made past f m (record_at past m) refl known.inputs e)) (known.unread f never);
      placed = known.placed;
      saved = known.saved;
      done = known.done;
      saves = saves-stay past actor known;
      claims = λ a claim is. new-or (λ (c : OpenClaim). c.made.0 < length (records past)) (actor_same a actor) (record { worker = worker; made = m }) (open_claim past a) claim
          (get-within (records past) m.0 following.it following.at) (known.claims a claim) is;
    }
act-within judge header events past actor (Done worker m) known was made numbered ok = record {
  numbered = numbered;
  inputs = made.inputs;
  unread = known.unread;
  saved = known.saved;
  placed = λ f is. done-places past worker m f (place past f) (known.placed f) is;
  saves = saves-stay past actor known;
  claims = claims-end past actor known;
  done = λ r is. or-cases (record_same r m) (was_done past r) (r.0 < length (records past)) is
      (λ e. subst (λ (id : RecordId). id.0 < length (records past)) (sym ((record_same-Decides r m).0 e))
      (opened-on (open_claim past actor) worker m (length (records past)) ok (known.claims actor)))
      (known.done r);
}
act-within judge header events past actor (Back m) known was made numbered ok = record {
  numbered = numbered;
  inputs = made.inputs;
  unread = known.unread;
  placed = known.placed;
  saved = known.saved;
  done = known.done;
  saves = saves-stay past actor known;
  claims = claims-end past actor known;
}
act-within judge header events past actor (Lose worker) known was made numbered ok = record {
  numbered = numbered;
  inputs = made.inputs;
  unread = known.unread;
  saved = known.saved;
  done = known.done;
  placed = λ f is. known.placed f (some-unless (is_at worker (place past f)) (place past f) is);
  saves = saves-stay past actor known;
  claims = λ a claim is. claims-stay past actor known a claim
      (none-or (is_on worker (if actor_same a actor then open_claim past a else open_claim past a)) (if actor_same a actor then open_claim past a else open_claim past a) claim is);
}
act-within judge header events past actor (Free g) known was made numbered ok = record {
  numbered = numbered;
  inputs = made.inputs;
  unread = known.unread;
  saved = known.saved;
  done = known.done;
  placed = λ f is. known.placed f (some-unless (file_same f g) (place past f) is);
  saves = saves-stay past actor known;
  claims = claims-stay past actor known;
}
act-within judge header events past actor (Drop worker g) known was made numbered ok = record {
  numbered = numbered;
  inputs = made.inputs;
  unread = known.unread;
  saved = known.saved;
  done = known.done;
  placed = λ f is. known.placed f (some-unless (file_same f g && is_at worker (place past f)) (place past f) is);
  saves = saves-stay past actor known;
  claims = claims-stay past actor known;
}
act-within judge header events past actor (Load worker g) known was made numbered ok =
    let was_saved = known.saved g (and_parts _ (is_saved past g) (and_parts _ (not (is_resident past g)) ok).0).1 in
    record {
      numbered = numbered;
      inputs = made.inputs;
      unread = known.unread;
      saved = known.saved;
      done = known.done;
      placed = λ f is. some-or (IsOutputOf (records past) f) (file_same f g) worker (place past f)
          (λ e. subst (IsOutputOf (records past)) (sym ((file_same-Decides f g).0 e)) was_saved) (known.placed f) is;
      saves = saves-stay past actor known;
      claims = claims-stay past actor known;
    }
act-within judge header events past actor (Save g) known was made numbered ok = record {
  numbered = numbered;
  inputs = made.inputs;
  unread = known.unread;
  placed = known.placed;
  saved = known.saved;
  done = known.done;
  saves = λ a f is. new-or (IsOutputOf (records past)) (actor_same a actor) g (open_save past a) f
      (next-made header past g was (and_parts (is_idle past actor) (is_file (next_save header past) g) ok).1) (known.saves a f) is;
  claims = claims-stay past actor known;
}
act-within judge header events past actor (Saved g size digest) known was made numbered ok =
    let here = or-cases (saves_file g (open_save past actor)) (follows_put past actor g) (IsOutputOf (records past) g)
    (and_parts (saves_file g (open_save past actor) || follows_put past actor g) _ ok).0
    (λ e. known.saves actor g (saves-that g (open_save past actor) e))
    (λ e. follows-made past actor g known.numbered e) in
    record {
      numbered = numbered;
      inputs = made.inputs;
      unread = known.unread;
      placed = known.placed;
      done = known.done;
      saved = λ f is. some-or (IsOutputOf (records past) f) (file_same f g) (record { size = size; digest = digest }) (saved_as past f)
          (λ e. subst (IsOutputOf (records past)) (sym ((file_same-Decides f g).0 e)) here) (known.saved f) is;
      saves = saves-end past actor known;
      claims = claims-stay past actor known;
    }
act-within judge header events past actor (Unsave g) known was made numbered ok = record {
  numbered = numbered;
  inputs = made.inputs;
  unread = known.unread;
  placed = known.placed;
  saved = known.saved;
  done = known.done;
  saves = saves-end past actor known;
  claims = claims-stay past actor known;
}
act-within judge header events past actor (Collect m) known was made numbered ok = record {
  numbered = numbered;
  inputs = made.inputs;
  unread = known.unread;
  placed = known.placed;
  saved = known.saved;
  done = known.done;
  saves = saves-stay past actor known;
  claims = claims-stay past actor known;
}

past-numbered : {T : Type 0} (judge : Judge T) (header : Header) (events : List (Event T)) → all_permitted judge header events ≡ true → Numbered (records (without_tickets events))
past-numbered judge header events ok = subst Numbered (sym (records-with (λ _. tt) events)) (all-numbered judge header events ok)

pub within-empty : IsWithin []
within-empty = record {
  numbered = λ i r got. absurd (cc);
  inputs = tt;
  placed = λ f is. absurd (cc);
  saved = λ f is. absurd (cc);
  saves = λ a f is. absurd (cc);
  claims = λ a claim is. absurd (cc);
  done = λ made is. absurd (cc);
  unread = λ f never. refl;
}

pub all-within : {T : Type 0} (judge : Judge T) (header : Header) (events : List (Event T)) → all_permitted judge header events ≡ true → IsWithin (without_tickets events)
all-within judge header [] ok = within-empty
all-within judge header (e ∷ events) ok =
    let parts = and_parts (is_none (broken judge header events e)) (all_permitted judge header events) ok in
    act-within judge header events (without_tickets events) e.actor e.act
    (all-within judge header events parts.1) (past-made judge header events parts.1)
    (past-made judge header (e ∷ events) ok) (past-numbered judge header (e ∷ events) ok)
    (permitted_of judge header events e parts.0).1
