-- Each accepted put is saved, or its Saved is owed.
use Rattle.std.proofs.Common.{◌≡◌, ◌<◌, ◌⊎◌, inl, inr, Bool, true, false, ◌&&◌, if◌then◌else◌, List, [], ◌∷◌, ◌++◌, length, slice_get, Option, Some, is_some, is_none, refl, sym, ap, ◌∙◌, arith, length-append, append-nil}
use Rattle.std.proofs.lemmas.Bool.{and_parts}
use Rattle.tl_types.specs.Same.{actor_same, file_same, file_same-Decides}
use Rattle.tl_types.specs.declared.actor.Actor.{Actor}
use Rattle.tl_types.specs.declared.file_id.FileId.{FileId}
use Rattle.tl_types.specs.declared.record_id.RecordId.{RecordId}
use Rattle.tl_model.specs.declared.command.Command.{Command}
use Rattle.tl_model.specs.declared.command.Command.TheVariants.{Put, Job, Read, Delete, Mkdir, Rename, Pin, Unpin, List as list, Stat, Free as free}
use Rattle.tl_model.specs.declared.reply.Reply.{Reply}
use Rattle.tl_model.specs.declared.reply.Reply.TheVariants.{Made, Fine, Opened, Listed, Stated, Exists, NoSuch, NotFile, NotDir, NotEmpty, TooDeep, IntoItself, TooMany}
use Rattle.tl_model.specs.declared.record.Record.{Record}
use Rattle.tl_model.specs.declared.record.Record.TheVariants as kind
use Rattle.tl_model.specs.declared.header.Header.{Header}
use Rattle.tl_model.specs.declared.event.Act.{Act}
use Rattle.tl_model.specs.declared.event.Act.TheVariants.{Call, Served, Shut, Claim, Done, Back, Lose, Free, Drop, Load, Save, Saved, Unsave, Collect}
use Rattle.tl_model.specs.declared.event.Event.{Event}
use Rattle.tl_model.specs.Namespace.{Names}
use Rattle.tl_model.specs.Past.{Past, act_with, command_with, without_tickets}
use Rattle.tl_model.specs.Replies.{reply_to, reply_same}
use Rattle.tl_model.specs.History.{calls_of, names, names_of, records, record_made, record_at, reply_after}
use Rattle.tl_model.specs.Residency.{SavedAs, saved_after, saved_as, is_saved}
use Rattle.tl_model.specs.Rules.{Judge, Owed, Nothing, ToSave, ToFree, ToServe, ToDrop, owed, owed_after, pays, is_permitted, all_permitted, broken, is_quiet, is_client, owes_nothing, holds}
use Rattle.tl_model.specs.Actors.{is_idle}
use Rattle.tl_laws.proofs.Tickets.{names-with, records-with}
use Rattle.tl_laws.proofs.Refusals.{put_made}
use Rattle.tl_laws.proofs.Permits.{permitted_of}
use Rattle.tl_laws.proofs.Numbering.{below_or_not, get-left, get-last, get-within}

abbrev pub owes_save : Owed → FileId → Bool
owes_save (ToSave actor g) f = file_same g f
owes_save _ f = false

-- each put's file is saved, or is owed to be
abbrev pub PutsSaved : {T : Type 0} → Judge T → List (Event T) → Type 0
PutsSaved judge events = (f : FileId) (id : RecordId) → record_at (without_tickets events) f.rec ≡ Some (kind.Put id) → f.out ≡ 0 →
    (is_saved (without_tickets events) f ≡ true) ⊎ (owes_save (owed judge events) f ≡ true)

saved-if : (b : Bool) (new : SavedAs) (o : Option SavedAs) → is_some o ≡ true → is_some (if b then Some new else o) ≡ true
saved-if true new o h = refl
saved-if false new o h = h

pub saved-stays : (act : Act (Unit {0})) (f : FileId) (o : Option SavedAs) → is_some o ≡ true → is_some (saved_after act f o) ≡ true
saved-stays (Saved g size digest) f o h = saved-if (file_same f g) (record { size = size; digest = digest }) o h
saved-stays (Call command reply) f o h = h
saved-stays (Served g d) f o h = h
saved-stays (Shut g) f o h = h
saved-stays (Claim worker made) f o h = h
saved-stays (Done worker made) f o h = h
saved-stays (Back made) f o h = h
saved-stays (Lose worker) f o h = h
saved-stays (Free g) f o h = h
saved-stays (Drop worker g) f o h = h
saved-stays (Load worker g) f o h = h
saved-stays (Save g) f o h = h
saved-stays (Unsave g) f o h = h
saved-stays (Collect made) f o h = h

if-true : {A : Type 0} (b : Bool) (x y : A) → b ≡ true → (if b then x else y) ≡ x
if-true true x y h = refl
if-true false x y h = absurd (cc)

-- who owes a save and pays saves the file
pays-saved : {T : Type 0} (o : Owed) (f : FileId) (actor : Actor) (act : Act T) (before : Option SavedAs) → owes_save o f ≡ true → pays o actor act ≡ true →
    is_some (saved_after (act_with {U = Unit {0}} (λ _. tt) act) f before) ≡ true
pays-saved Nothing f actor act before owes pay = absurd (cc)
pays-saved (ToFree owing g) f actor act before owes pay = absurd (cc)
pays-saved (ToServe owing g) f actor act before owes pay = absurd (cc)
pays-saved ToDrop f actor act before owes pay = absurd (cc)
pays-saved (ToSave owing g) f actor (Saved h size digest) before owes pay =
    let gf : g ≡ f = (file_same-Decides g f).0 owes in
    let gh : g ≡ h = (file_same-Decides g h).0 (and_parts (actor_same owing actor) (file_same g h) pay).1 in
    ap (λ (o : Option SavedAs). is_some o) (if-true (file_same f h) (Some (record { size = size; digest = digest })) before ((file_same-Decides f h).1 (sym gf ∙ gh)))
pays-saved (ToSave owing g) f actor (Call command reply) before owes pay = absurd (cc)
pays-saved (ToSave owing g) f actor (Served h d) before owes pay = absurd (cc)
pays-saved (ToSave owing g) f actor (Shut h) before owes pay = absurd (cc)
pays-saved (ToSave owing g) f actor (Claim worker made) before owes pay = absurd (cc)
pays-saved (ToSave owing g) f actor (Done worker made) before owes pay = absurd (cc)
pays-saved (ToSave owing g) f actor (Back made) before owes pay = absurd (cc)
pays-saved (ToSave owing g) f actor (Lose worker) before owes pay = absurd (cc)
pays-saved (ToSave owing g) f actor (Free h) before owes pay = absurd (cc)
pays-saved (ToSave owing g) f actor (Drop worker h) before owes pay = absurd (cc)
pays-saved (ToSave owing g) f actor (Load worker h) before owes pay = absurd (cc)
pays-saved (ToSave owing g) f actor (Save h) before owes pay = absurd (cc)
pays-saved (ToSave owing g) f actor (Unsave h) before owes pay = absurd (cc)
pays-saved (ToSave owing g) f actor (Collect made) before owes pay = absurd (cc)

-- a put that is found after a call was there, or is the one that the call made
put-found : {T : Type 0} (past : Past) (actor : Actor) (later : Owed) (reply : Reply) (command : Command T) (names : Names) (rs : List Record) (f : FileId) (id : RecordId) →
    reply_same (reply_to names (length rs) command) reply ≡ true → f.out ≡ 0 →
    slice_get (rs ++ record_made reply (command_with {U = Unit {0}} (λ _. tt) command) names) f.rec.0 ≡ Some (kind.Put id) →
    (slice_get rs f.rec.0 ≡ Some (kind.Put id)) ⊎ (owes_save (owed_after past actor (Call command reply) later) f ≡ true)
put-found past actor later (Made made) (Put path len digest ticket) names rs f id same out at =
    elim (below_or_not f.rec.0 (length rs)) [
      | inl h ↦ inl (sym (get-left rs (kind.Put made ∷ []) f.rec.0 h) ∙ at)
      | inr h ↦
          let number : made.0 ≡ length rs = ap (λ (r : RecordId). r.0) (put_made names (length rs) path len digest ticket made same) in
          let within : f.rec.0 < length (rs ++ kind.Put made ∷ []) = get-within (rs ++ kind.Put made ∷ []) f.rec.0 (kind.Put id) at in
          let it : made.0 ≡ f.rec.0 = omega (arith, length-append rs (kind.Put made ∷ [])) in
          let file : record { rec = made; out = 0 } ≡ f = λ i. record { rec = record { 0 = it i }; out = sym out i } in
          inr ((file_same-Decides (record { rec = made; out = 0 }) f).1 file)
    ]
put-found past actor later (Made made) (Job core prio inputs outputs) names rs f id same out at =
    elim (below_or_not f.rec.0 (length rs)) [
      | inl h ↦ inl (sym (get-left rs _ f.rec.0 h) ∙ at)
      | inr h ↦
          let job = record_made {T = Unit {0}} (Made made) (Job core prio inputs outputs) names in
          let within : f.rec.0 < length (rs ++ job) = get-within (rs ++ job) f.rec.0 (kind.Put id) at in
          let last : f.rec.0 ≡ length rs = omega (arith, length-append rs job) in
          let both : Some (kind.Put id) ≡ Some (kind.Job made core prio _ _) = sym at ∙ get-last rs _ f.rec.0 last in
          absurd (cc)
    ]
put-found past actor later (Made made) (Read path prio form) names rs f id same out at = inl (ap (λ (xs : List Record). slice_get xs f.rec.0) (sym (append-nil rs)) ∙ at)
put-found past actor later (Made made) (Delete path) names rs f id same out at = inl (ap (λ (xs : List Record). slice_get xs f.rec.0) (sym (append-nil rs)) ∙ at)
put-found past actor later (Made made) (Mkdir path) names rs f id same out at = inl (ap (λ (xs : List Record). slice_get xs f.rec.0) (sym (append-nil rs)) ∙ at)
put-found past actor later (Made made) (Rename from to) names rs f id same out at = inl (ap (λ (xs : List Record). slice_get xs f.rec.0) (sym (append-nil rs)) ∙ at)
put-found past actor later (Made made) (Pin path) names rs f id same out at = inl (ap (λ (xs : List Record). slice_get xs f.rec.0) (sym (append-nil rs)) ∙ at)
put-found past actor later (Made made) (Unpin path) names rs f id same out at = inl (ap (λ (xs : List Record). slice_get xs f.rec.0) (sym (append-nil rs)) ∙ at)
put-found past actor later (Made made) (list path) names rs f id same out at = inl (ap (λ (xs : List Record). slice_get xs f.rec.0) (sym (append-nil rs)) ∙ at)
put-found past actor later (Made made) (Stat path) names rs f id same out at = inl (ap (λ (xs : List Record). slice_get xs f.rec.0) (sym (append-nil rs)) ∙ at)
put-found past actor later (Made made) (free path) names rs f id same out at = inl (ap (λ (xs : List Record). slice_get xs f.rec.0) (sym (append-nil rs)) ∙ at)
put-found past actor later Fine command names rs f id same out at = inl (ap (λ (xs : List Record). slice_get xs f.rec.0) (sym (append-nil rs)) ∙ at)
put-found past actor later (Opened g) command names rs f id same out at = inl (ap (λ (xs : List Record). slice_get xs f.rec.0) (sym (append-nil rs)) ∙ at)
put-found past actor later (Listed entries) command names rs f id same out at = inl (ap (λ (xs : List Record). slice_get xs f.rec.0) (sym (append-nil rs)) ∙ at)
put-found past actor later (Stated s) command names rs f id same out at = inl (ap (λ (xs : List Record). slice_get xs f.rec.0) (sym (append-nil rs)) ∙ at)
put-found past actor later Exists command names rs f id same out at = inl (ap (λ (xs : List Record). slice_get xs f.rec.0) (sym (append-nil rs)) ∙ at)
put-found past actor later NoSuch command names rs f id same out at = inl (ap (λ (xs : List Record). slice_get xs f.rec.0) (sym (append-nil rs)) ∙ at)
put-found past actor later NotFile command names rs f id same out at = inl (ap (λ (xs : List Record). slice_get xs f.rec.0) (sym (append-nil rs)) ∙ at)
put-found past actor later NotDir command names rs f id same out at = inl (ap (λ (xs : List Record). slice_get xs f.rec.0) (sym (append-nil rs)) ∙ at)
put-found past actor later NotEmpty command names rs f id same out at = inl (ap (λ (xs : List Record). slice_get xs f.rec.0) (sym (append-nil rs)) ∙ at)
put-found past actor later TooDeep command names rs f id same out at = inl (ap (λ (xs : List Record). slice_get xs f.rec.0) (sym (append-nil rs)) ∙ at)
put-found past actor later IntoItself command names rs f id same out at = inl (ap (λ (xs : List Record). slice_get xs f.rec.0) (sym (append-nil rs)) ∙ at)
put-found past actor later TooMany command names rs f id same out at = inl (ap (λ (xs : List Record). slice_get xs f.rec.0) (sym (append-nil rs)) ∙ at)

-- what was saved or owed before an event is saved after it
saved-next : {T : Type 0} (judge : Judge T) (events : List (Event T)) (actor : Actor) (act : Act T) (f : FileId) → pays (owed judge events) actor act ≡ true →
    ((is_saved (without_tickets events) f ≡ true) ⊎ (owes_save (owed judge events) f ≡ true)) →
    is_saved (without_tickets (record { actor = actor; act = act } ∷ events)) f ≡ true
saved-next judge events actor act f paid (inl saved) = saved-stays (act_with {U = Unit {0}} (λ _. tt) act) f (saved_as (without_tickets events) f) saved
saved-next judge events actor act f paid (inr owes) = pays-saved (owed judge events) f actor act (saved_as (without_tickets events) f) owes paid

pub permitted-reply : {T : Type 0} (judge : Judge T) (header : Header) (events : List (Event T)) (actor : Actor) (command : Command T) (reply : Reply) →
    is_permitted judge header events (without_tickets events) actor (Call command reply) ≡ true →
    reply_same (reply_to (names (without_tickets events)) (length (records (without_tickets events))) command) reply ≡ true
permitted-reply judge header events actor command reply ok =
    let same : reply_same (reply_after (calls_of events) command) reply ≡ true =
    (and_parts (is_client actor && is_idle (without_tickets events) actor && judge.put_fits command) (reply_same (reply_after (calls_of events) command) reply) ok).1 in
    ap (λ (ns : Names). reply_same (reply_to ns (length (records (without_tickets events))) command) reply) (names-with (λ _. tt) events)
    ∙ ap (λ (rs : List Record). reply_same (reply_to (names_of (calls_of events)) (length rs) command) reply) (records-with (λ _. tt) events) ∙ same

saves-step : {T : Type 0} (judge : Judge T) (header : Header) (events : List (Event T)) (actor : Actor) (act : Act T) → PutsSaved judge events →
    pays (owed judge events) actor act ≡ true → is_permitted judge header events (without_tickets events) actor act ≡ true →
    PutsSaved judge (record { actor = actor; act = act } ∷ events)
saves-step judge header events actor (Call command reply) before paid ok = λ f id at out.
    let past : Past = without_tickets events in
    let later : Owed = if judge.owes_drop (record { actor = actor; act = Call command reply } ∷ events) then ToDrop else Nothing in
    elim (put-found past actor later reply command (names past) (records past) f id (permitted-reply judge header events actor command reply ok) out at) [
      | inl old ↦ inl (saved-next judge events actor (Call command reply) f paid (before f id old out))
      | inr owes ↦ inr owes
    ]
saves-step judge header events actor (Served g d) before paid ok = λ f id at out. inl (saved-next judge events actor (Served g d) f paid (before f id at out))
saves-step judge header events actor (Shut g) before paid ok = λ f id at out. inl (saved-next judge events actor (Shut g) f paid (before f id at out))
saves-step judge header events actor (Claim worker made) before paid ok = λ f id at out. inl (saved-next judge events actor (Claim worker made) f paid (before f id at out))
saves-step judge header events actor (Done worker made) before paid ok = λ f id at out. inl (saved-next judge events actor (Done worker made) f paid (before f id at out))
saves-step judge header events actor (Back made) before paid ok = λ f id at out. inl (saved-next judge events actor (Back made) f paid (before f id at out))
saves-step judge header events actor (Lose worker) before paid ok = λ f id at out. inl (saved-next judge events actor (Lose worker) f paid (before f id at out))
saves-step judge header events actor (Free g) before paid ok = λ f id at out. inl (saved-next judge events actor (Free g) f paid (before f id at out))
saves-step judge header events actor (Drop worker g) before paid ok = λ f id at out. inl (saved-next judge events actor (Drop worker g) f paid (before f id at out))
saves-step judge header events actor (Load worker g) before paid ok = λ f id at out. inl (saved-next judge events actor (Load worker g) f paid (before f id at out))
saves-step judge header events actor (Save g) before paid ok = λ f id at out. inl (saved-next judge events actor (Save g) f paid (before f id at out))
saves-step judge header events actor (Saved g size digest) before paid ok = λ f id at out. inl (saved-next judge events actor (Saved g size digest) f paid (before f id at out))
saves-step judge header events actor (Unsave g) before paid ok = λ f id at out. inl (saved-next judge events actor (Unsave g) f paid (before f id at out))
saves-step judge header events actor (Collect made) before paid ok = λ f id at out. inl (saved-next judge events actor (Collect made) f paid (before f id at out))

-- in a journal whose events are permitted each put is saved, or its Saved is owed
pub all-saves : {T : Type 0} (judge : Judge T) (header : Header) (events : List (Event T)) → all_permitted judge header events ≡ true → PutsSaved judge events
all-saves judge header [] ok = λ f id at out. absurd (cc)
all-saves judge header (e ∷ events) ok =
    let parts = and_parts (is_none (broken judge header events e)) (all_permitted judge header events) ok in
    let fits = permitted_of judge header events e parts.0 in
    saves-step judge header events e.actor e.act (all-saves judge header events parts.1) fits.0 fits.1

owes-nothing-saves : (o : Owed) (f : FileId) → owes_nothing o ≡ true → owes_save o f ≡ true → ⊥
owes-nothing-saves Nothing f h k = absurd (cc)
owes-nothing-saves (ToSave actor g) f h k = absurd (cc)
owes-nothing-saves (ToFree actor g) f h k = absurd (cc)
owes-nothing-saves (ToServe actor g) f h k = absurd (cc)
owes-nothing-saves ToDrop f h k = absurd (cc)

-- and where nothing is owed each put is saved
pub quiet-saves : {T : Type 0} (judge : Judge T) (header : Header) (events : List (Event T)) → holds judge header events ≡ true →
    (f : FileId) (id : RecordId) → record_at (without_tickets events) f.rec ≡ Some (kind.Put id) → f.out ≡ 0 → is_saved (without_tickets events) f ≡ true
quiet-saves judge header events h = λ f id at out.
    let parts = and_parts (all_permitted judge header events) (is_quiet judge events) h in
    elim (all-saves judge header events parts.0 f id at out) [ inl saved ↦ saved | inr owes ↦ absurd (owes-nothing-saves (owed judge events) f parts.1 owes) ]
