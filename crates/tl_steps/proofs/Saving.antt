-- A file with an open save is unsaved, and one actor alone saves it; what is saved is never saved again.
use Rattle.std.proofs.Common.{◌≡◌, ℕ, ◌<◌, Bool, true, false, ◌&&◌, ◌||◌, not, if◌then◌else◌, List, [], ◌∷◌, ◌++◌, length, slice_get, Option, Some, None, is_some, is_none, refl, sym, ap, ◌∙◌, subst, arith}
use Rattle.std.proofs.lemmas.Bool.{and_parts, not-true, false_from_ne_true}
use Rattle.tl_types.specs.Same.{actor_same, file_same, actor_same-Decides, file_same-Decides}
use Rattle.tl_types.specs.declared.actor.Actor.{Actor}
use Rattle.tl_types.specs.declared.file_id.FileId.{FileId}
use Rattle.tl_types.specs.declared.record_id.RecordId.{RecordId}
use Rattle.tl_model.specs.declared.command.Command.{Command}
use Rattle.tl_model.specs.declared.command.Command.TheVariants.{Put}
use Rattle.tl_model.specs.declared.reply.Reply.{Reply}
use Rattle.tl_model.specs.declared.reply.Reply.TheVariants.{Made}
use Rattle.tl_model.specs.declared.record.Record.{Record}
use Rattle.tl_model.specs.declared.record.Record.TheVariants as kind
use Rattle.tl_model.specs.declared.header.Header.{Header}
use Rattle.tl_model.specs.declared.event.Act.{Act}
use Rattle.tl_model.specs.declared.event.Act.TheVariants.{Call, Save, Saved, Unsave}
use Rattle.tl_model.specs.declared.event.Event.{Event}
use Rattle.tl_model.specs.Past.{Past, act_with, without_tickets}
use Rattle.tl_model.specs.History.{records, has_output}
use Rattle.tl_model.specs.Actors.{is_being_saved, is_idle, open_save, save_after, saves_file}
use Rattle.tl_model.specs.Residency.{SavedAs, is_resident, is_saved, saved_after, saved_as}
use Rattle.tl_model.specs.History.{is_named}
use Rattle.tl_model.specs.Checkpoints.{can_be_saved, edge, next_save}
use Rattle.tl_model.specs.Rules.{Judge, all_permitted, broken, follows_put, is_file, is_permitted, is_put_of, made_by_put}
use Rattle.tl_laws.specs.Made.{IsOutputOf}
use Rattle.tl_laws.specs.Numbers.{Numbered}
use Rattle.tl_laws.proofs.Actors.{among-actors, saver-known}
use Rattle.tl_laws.proofs.Numbering.{get-last, get-within}
use Rattle.tl_laws.proofs.Permits.{permitted_of}
use Rattle.tl_steps.specs.Within.{IsWithin}
use Rattle.tl_steps.proofs.Within.{all-within, edge-all, first-has, is-that, none-or, same-either, saves-that}

-- ---- what can be saved

-- what is saved next can be saved
pub next-can : (header : Header) (past : Past) (f : FileId) → next_save header past ≡ Some f → can_be_saved past f ≡ true
next-can header past f is = first-has (λ g. can_be_saved past g ≡ true) (edge header past) f (edge-all header past) is

-- it is named and resident, not saved, and no save of it is open
pub record CanBeSaved (past : Past) (f : FileId) : Type 0 where
  pub named : is_named past f ≡ true
  pub resident : is_resident past f ≡ true
  pub unsaved : is_saved past f ≡ false
  pub idle : is_being_saved past f ≡ false

pub can-parts : (past : Past) (f : FileId) → can_be_saved past f ≡ true → CanBeSaved past f
can-parts past f can =
    let last = and_parts (is_named past f && is_resident past f && not (is_saved past f)) (not (is_being_saved past f)) can in
    let mid = and_parts (is_named past f && is_resident past f) (not (is_saved past f)) last.0 in
    let front = and_parts (is_named past f) (is_resident past f) mid.0 in
    record {
      named = front.0;
      resident = front.1;
      unsaved = not-true (is_saved past f) mid.1;
      idle = not-true (is_being_saved past f) last.1;
    }

-- ---- a put's file is new

record-below : (rs : List Record) (f : FileId) (o : Option Record) → slice_get rs f.rec.0 ≡ o → has_output o f.out ≡ true → f.rec.0 < length rs
record-below rs f None at is = absurd (cc)
record-below rs f (Some r) at is = get-within rs f.rec.0 r at

new-by : (actor : Actor) (reply : Reply) (command : Command (Unit {0})) (past : Past) (f : FileId) → Numbered (records (record { actor = actor; act = Call command reply } ∷ past)) →
    made_by_put reply command f ≡ true → IsOutputOf (records past) f → ⊥
new-by actor (Made made) (Put path len digest ticket) past f numbered is was =
    let it : f ≡ record { rec = made; out = 0 } = (file_same-Decides f (record { rec = made; out = 0 })).0 is in
    let number : made ≡ record { 0 = length (records past) } =
    numbered (length (records past)) (kind.Put made) (get-last (records past) (kind.Put made) (length (records past)) refl) in
    let at : f.rec.0 ≡ length (records past) = ap (λ (g : FileId). g.rec.0) it ∙ ap (λ (r : RecordId). r.0) number in
    let less : f.rec.0 < length (records past) = record-below (records past) f (slice_get (records past) f.rec.0) refl was in
    omega arith
new-by actor reply command past f numbered is was = cc

new-act : (before : Actor) (act : Act (Unit {0})) (past : Past) (f : FileId) → Numbered (records (record { actor = before; act = act } ∷ past)) →
    is_put_of act f ≡ true → IsOutputOf (records past) f → ⊥
new-act before (Call command reply) past f numbered is was = new-by before reply command past f numbered is was
new-act before act past f numbered is was = cc

-- a file that the event before put has no open save and isn't saved
pub record IsFresh (past : Past) (f : FileId) : Type 0 where
  pub unsaved : is_saved past f ≡ false
  pub idle : (actor : Actor) → open_save past actor ≡ Some f → ⊥

put-leaves-saved : (act : Act (Unit {0})) (f g : FileId) (before : Option SavedAs) → is_put_of act g ≡ true → saved_after act f before ≡ before
put-leaves-saved (Call command reply) f g before is = refl
put-leaves-saved act f g before is = absurd (cc)

put-leaves-save : (act : Act (Unit {0})) (g : FileId) (before : Option FileId) → is_put_of act g ≡ true → save_after act before ≡ before
put-leaves-save (Call command reply) g before is = refl
put-leaves-save act g before is = absurd (cc)

fresh-after : (d : Event (Unit {0})) (past : Past) (g : FileId) → IsWithin past → Numbered (records (d ∷ past)) → is_put_of d.act g ≡ true → IsFresh (d ∷ past) g
fresh-after d past g within numbered put =
    let new : IsOutputOf (records past) g → ⊥ = new-act d.actor d.act past g numbered put in
    record {
      unsaved = false_from_ne_true (is_saved (d ∷ past) g)
          (λ saved. new (within.saved g (ap is_some (sym (put-leaves-saved d.act g g (saved_as past g) put)) ∙ saved)));
      idle = λ actor is. new (within.saves actor g
          (same-either (actor_same actor d.actor) (open_save past actor) g
          (ap (λ o. if actor_same actor d.actor then o else open_save past actor) (sym (put-leaves-save d.act g (open_save past actor) put)) ∙ is)));
    }

fresh-put : {T : Type 0} (judge : Judge T) (header : Header) (events : List (Event T)) → all_permitted judge header events ≡ true → (actor : Actor) (g : FileId) →
    follows_put (without_tickets events) actor g ≡ true → IsFresh (without_tickets events) g
fresh-put judge header [] ok actor g put = absurd (cc)
fresh-put judge header (d ∷ events) ok actor g put =
    let before = (and_parts (is_none (broken judge header events d)) (all_permitted judge header events) ok).1 in
    fresh-after (record { actor = d.actor; act = act_with {U = Unit {0}} (λ _. tt) d.act }) (without_tickets events) g (all-within judge header events before)
    (all-within judge header (d ∷ events) ok).numbered
    (and_parts (actor_same d.actor actor) (is_put_of (act_with {U = Unit {0}} (λ _. tt) d.act) g) put).1

-- ---- open saves

-- a file with an open save is unsaved, and one actor alone saves it
pub record IsSavedOnce (past : Past) : Type 0 where
  pub unsaved : (actor : Actor) (f : FileId) → open_save past actor ≡ Some f → is_saved past f ≡ false
  pub alone : (a b : Actor) (f : FileId) → open_save past a ≡ Some f → open_save past b ≡ Some f → a ≡ b

-- what an event that saves it may save
may-be-saved : {T : Type 0} (judge : Judge T) (header : Header) (events : List (Event T)) (actor : Actor) (g : FileId) → all_permitted judge header events ≡ true →
    IsSavedOnce (without_tickets events) → (b c : Bool) → saves_file g (open_save (without_tickets events) actor) ≡ b → follows_put (without_tickets events) actor g ≡ c →
    (b || c) ≡ true → (is_saved (without_tickets events) g ≡ false) × ((a : Actor) → open_save (without_tickets events) a ≡ Some g → actor ≡ a)
may-be-saved judge header events actor g ok once true c e f is =
    let mine : open_save (without_tickets events) actor ≡ Some g = saves-that g (open_save (without_tickets events) actor) e in
    (once.unsaved actor g mine, λ a other. once.alone actor a g mine other)
may-be-saved judge header events actor g ok once false true e f is =
    let fresh = fresh-put judge header events ok actor g f in
    (fresh.unsaved, λ a other. absurd (fresh.idle a other))
may-be-saved judge header events actor g ok once false false e f is = absurd (cc)

abbrev pub MaySave : Past → Actor → FileId → Type 0
MaySave past actor g = (is_saved past g ≡ false) × ((a : Actor) → open_save past a ≡ Some g → actor ≡ a)

permitted-saved : {T : Type 0} (judge : Judge T) (header : Header) (events : List (Event T)) (actor : Actor) (g : FileId) (size : ℕ) (digest : _) → all_permitted judge header events ≡ true →
    IsSavedOnce (without_tickets events) → is_permitted judge header events (without_tickets events) actor (Saved g size digest) ≡ true → MaySave (without_tickets events) actor g
permitted-saved judge header events actor g size digest ok once fits =
    let past : Past = without_tickets events in
    may-be-saved judge header events actor g ok once (saves_file g (open_save past actor)) (follows_put past actor g) refl refl
    (and_parts (saves_file g (open_save past actor) || follows_put past actor g) (judge.saves events g size digest) fits).0

-- an event that opens and ends no save
once-stays : (past : Past) (actor : Actor) (act : Act (Unit {0})) → IsSavedOnce past → ((o : Option FileId) → save_after act o ≡ o) →
    ((f : FileId) (o : Option SavedAs) → saved_after act f o ≡ o) → IsSavedOnce (record { actor = actor; act = act } ∷ past)
once-stays past actor act once save saved =
    let same : (a : Actor) → open_save (record { actor = actor; act = act } ∷ past) a ≡ open_save past a =
    λ a. ap (λ o. if actor_same a actor then o else open_save past a) (save (open_save past a)) ∙ either (actor_same a actor) (open_save past a) in
    record {
      unsaved = λ a f is. ap is_some (saved f (saved_as past f)) ∙ once.unsaved a f (sym (same a) ∙ is);
      alone = λ a b f is other. once.alone a b f (sym (same a) ∙ is) (sym (same b) ∙ other);
    }
  where
    either : {A : Type 0} (b : Bool) (x : A) → (if b then x else x) ≡ x
    either true x = refl
    either false x = refl

is-saving : (past : Past) (a : Actor) (f : FileId) → a.0 < 16 → open_save past a ≡ Some f → is_being_saved past f ≡ true
is-saving past a f known is =
    among-actors (λ b. saves_file f (open_save past b)) a.0 known (ap (saves_file f) is ∙ (file_same-Decides f f).1 refl)

not-idle : (past : Past) (a : Actor) (f : FileId) → a.0 < 16 → open_save past a ≡ Some f → is_being_saved past f ≡ false → ⊥
not-idle past a f known is idle = let never : true ≡ false = sym (is-saving past a f known is) ∙ idle in cc

-- who has it open after an actor opened it
opened-by : (past : Past) (actor : Actor) (f : FileId) → is_being_saved past f ≡ false → is_saved past f ≡ false → ((a : Actor) (g : FileId) → open_save past a ≡ Some g → a.0 < 16) →
    IsSavedOnce past → IsSavedOnce (record { actor = actor; act = Save f } ∷ past)
opened-by past actor f idle unsaved known once = record {
  unsaved = λ a g is. unsaved-by (actor_same a actor) a g is;
  alone = λ a b g is other. alone-by (actor_same a actor) (actor_same b actor) a b g refl refl is other;
}
  where
    unsaved-by : (t : Bool) (a : Actor) (g : FileId) → (if t then Some f else open_save past a) ≡ Some g → is_saved past g ≡ false
    unsaved-by true a g is = let same : f ≡ g = cc in subst (λ h. is_saved past h ≡ false) same unsaved
    unsaved-by false a g is = once.unsaved a g is

    alone-by : (t u : Bool) (a b : Actor) (g : FileId) → actor_same a actor ≡ t → actor_same b actor ≡ u → (if t then Some f else open_save past a) ≡ Some g →
        (if u then Some f else open_save past b) ≡ Some g → a ≡ b
    alone-by true true a b g e h is other = (actor_same-Decides a actor).0 e ∙ sym ((actor_same-Decides b actor).0 h)
    alone-by true false a b g e h is other =
        let same : f ≡ g = cc in
        absurd (not-idle past b f (known b g other) (other ∙ ap Some (sym same)) idle)
    alone-by false true a b g e h is other =
        let same : f ≡ g = cc in
        absurd (not-idle past a f (known a g is) (is ∙ ap Some (sym same)) idle)
    alone-by false false a b g e h is other = once.alone a b g is other

-- who has what open after an actor ended its save
alone-ended : (past : Past) (actor : Actor) → IsSavedOnce past → (a b : Actor) (g : FileId) → (if actor_same a actor then None else open_save past a) ≡ Some g →
    (if actor_same b actor then None else open_save past b) ≡ Some g → a ≡ b
alone-ended past actor once a b g is other =
    once.alone a b g (none-or (actor_same a actor) (open_save past a) g is) (none-or (actor_same b actor) (open_save past b) g other)

saved-by : (past : Past) (actor : Actor) (g : FileId) (size : ℕ) (digest : _) → MaySave past actor g → IsSavedOnce past →
    IsSavedOnce (record { actor = actor; act = Saved g size digest } ∷ past)
saved-by past actor g size digest may once = record {
  unsaved = λ a f is. by (actor_same a actor) (file_same f g) a f refl refl is;
  alone = alone-ended past actor once;
}
  where
    by : (t u : Bool) (a : Actor) (f : FileId) → actor_same a actor ≡ t → file_same f g ≡ u → (if t then None else open_save past a) ≡ Some f →
        is_some (if u then Some (record { size = size; digest = digest }) else saved_as past f) ≡ false
    by true u a f e h is = absurd (cc)
    by false true a f e h is =
        let it : f ≡ g = (file_same-Decides f g).0 h in
        let mine : actor ≡ a = may.1 a (is ∙ ap Some it) in
        absurd (let never : true ≡ false = sym ((actor_same-Decides a actor).1 (sym mine)) ∙ e in cc)
    by false false a f e h is = once.unsaved a f is

ended-by : (past : Past) (actor : Actor) (g : FileId) → IsSavedOnce past → IsSavedOnce (record { actor = actor; act = Unsave g } ∷ past)
ended-by past actor g once = record {
  unsaved = λ a f is. once.unsaved a f (none-or (actor_same a actor) (open_save past a) f is);
  alone = alone-ended past actor once;
}

act-once : {T : Type 0} (judge : Judge T) (header : Header) (events : List (Event T)) (actor : Actor) (act : Act T) → all_permitted judge header events ≡ true →
    IsSavedOnce (without_tickets events) → is_permitted judge header events (without_tickets events) actor act ≡ true →
    IsSavedOnce (record { actor = actor; act = act_with {U = Unit {0}} (λ _. tt) act } ∷ without_tickets events)
act-once judge header events actor (Save f) ok once fits =
    let past : Past = without_tickets events in
    let can = can-parts past f (next-can header past f (is-that (next_save header past) f (and_parts (is_idle past actor) (is_file (next_save header past) f) fits).1)) in
    opened-by past actor f can.idle can.unsaved (λ a g is. saver-known judge header events ok a g is) once
act-once judge header events actor (Saved g size digest) ok once fits =
    saved-by (without_tickets events) actor g size digest (permitted-saved judge header events actor g size digest ok once fits) once
act-once judge header events actor (Unsave g) ok once fits = ended-by (without_tickets events) actor g once
act-once judge header events actor act ok once fits =
    once-stays (without_tickets events) actor (act_with {U = Unit {0}} (λ _. tt) act) once (λ o. refl) (λ f o. refl)

-- in a journal whose events are permitted
pub all-once : {T : Type 0} (judge : Judge T) (header : Header) (events : List (Event T)) → all_permitted judge header events ≡ true → IsSavedOnce (without_tickets events)
all-once judge header [] ok = record { unsaved = λ a f is. refl; alone = λ a b f is other. absurd (cc) }
all-once judge header (e ∷ events) ok =
    let parts = and_parts (is_none (broken judge header events e)) (all_permitted judge header events) ok in
    act-once judge header events e.actor e.act parts.1 (all-once judge header events parts.1) (permitted_of judge header events e parts.0).1

-- ---- what is saved stays as it is

stays-as : {T : Type 0} (judge : Judge T) (header : Header) (events : List (Event T)) (actor : Actor) (act : Act T) (f : FileId) (it : SavedAs) → all_permitted judge header events ≡ true →
    is_permitted judge header events (without_tickets events) actor act ≡ true → saved_as (without_tickets events) f ≡ Some it →
    saved_after (act_with {U = Unit {0}} (λ _. tt) act) f (saved_as (without_tickets events) f) ≡ Some it
stays-as judge header events actor (Saved g size digest) f it ok fits is =
    let past : Past = without_tickets events in
    let may : MaySave past actor g = permitted-saved judge header events actor g size digest ok (all-once judge header events ok) fits in
    let other : file_same f g ≡ false = false_from_ne_true (file_same f g)
    (λ same. absurd (let never : true ≡ false = sym (ap is_some is) ∙ ap (is_saved past) ((file_same-Decides f g).0 same) ∙ may.0 in cc)) in
    ap (λ b. if b then Some (record { size = size; digest = digest }) else saved_as past f) other ∙ is
stays-as judge header events actor act f it ok fits is = is

-- after more events that are permitted
pub saved-stays-as : {T : Type 0} (judge : Judge T) (header : Header) (more events : List (Event T)) → all_permitted judge header (more ++ events) ≡ true →
    (f : FileId) (it : SavedAs) → saved_as (without_tickets events) f ≡ Some it → saved_as (without_tickets (more ++ events)) f ≡ Some it
saved-stays-as judge header [] events ok f it is = is
saved-stays-as judge header (e ∷ more) events ok f it is =
    let parts = and_parts (is_none (broken judge header (more ++ events) e)) (all_permitted judge header (more ++ events)) ok in
    stays-as judge header (more ++ events) e.actor e.act f it parts.1 (permitted_of judge header (more ++ events) e parts.0).1
    (saved-stays-as judge header more events parts.1 f it is)
