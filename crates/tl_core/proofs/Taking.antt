-- What stands for the inputs of the record that is next.
use Rattle.std.proofs.Common.{◌≡◌, Bor, ℕ, zero, suc, ◌-◌, ◌<◌, ◌≤◌, Bool, true, false, ◌&&◌, ◌||◌, if◌then◌else◌, List, [], ◌∷◌, ◌++◌, length, slice_get, Option, Some, None, is_some, option_map, refl, sym, ap, ◌∙◌, subst, arith}
use Rattle.std.specs.List.{AllByRecursion, list_all}
use Rattle.std.proofs.lemmas.Bool.{and_from, and_parts, lt-ltb}
use Rattle.tl_types.specs.Same.{actor_same, record_same-Decides, file_same, file_same-Decides}
use Rattle.tl_types.specs.declared.actor.Actor.{Actor}
use Rattle.tl_types.specs.declared.file_id.FileId.{FileId}
use Rattle.tl_types.specs.declared.record_id.RecordId.{RecordId}
use Rattle.tl_types.specs.declared.worker_id.WorkerId.{WorkerId}
use Rattle.tl_model.specs.declared.command.Command.{Command}
use Rattle.tl_model.specs.declared.command.Command.TheVariants.{Put, Job, Read, Delete, Mkdir, Rename, Pin, Unpin, List as list, Stat, Free as free}
use Rattle.tl_model.specs.declared.reply.Reply.{Reply}
use Rattle.tl_model.specs.declared.reply.Reply.TheVariants.{Made, Fine, Opened, Listed, Stated, Exists, NoSuch, NotFile, NotDir, NotEmpty, TooDeep, IntoItself, TooMany}
use Rattle.tl_model.specs.declared.event.Act.{Act}
use Rattle.tl_model.specs.declared.event.Act.TheVariants.{Call, Served, Shut, Claim, Done, Back, Lose, Free, Drop, Load, Save, Saved, Unsave, Collect}
use Rattle.tl_model.specs.declared.event.Event.{Event}
use Rattle.tl_model.specs.declared.header.Header.{Header}
use Rattle.tl_model.specs.declared.record.Record.{Record}
use Rattle.tl_model.specs.declared.record.Record.TheVariants as kind
use Rattle.tl_model.specs.Past.{Past, events_with, without_tickets}
use Rattle.tl_model.specs.History.{id_of, inputs_of, is_job, records, record_at}
use Rattle.tl_model.specs.Actors.{OpenClaim, open_claim}
use Rattle.tl_model.specs.Residency.{is_kept, is_resident, is_available, all_available}
use Rattle.tl_model.specs.Plan.{next}
use Rattle.tl_model.specs.Rules.{all_permitted, is_lawful, is_quiet, lawful_judge, may_claim, is_record}
use Rattle.tl_laws.proofs.Permits.{holds-one, actor-known}
use Rattle.tl_laws.proofs.Next.{next-is}
use Rattle.tl_laws.proofs.Numbering.{all-numbered}
use Rattle.tl_laws_needs.proofs.Later.{next-is-kept}
use Rattle.std.specs.Option.{option_copied}
use Rattle.tl_laws.proofs.Tickets.{records-with}
use Rattle.tl_laws.specs.Numbers.{Numbered}
use Rattle.tl_core.specs.declared.resident.Resident.{Resident}
use Rattle.tl_core.specs.declared.work.Feed.{Feed}
use Rattle.tl_core.specs.declared.work.Feed.TheVariants.{Have, Kept}
use Rattle.tl_core.specs.declared.work.Work.{Work}
use Rattle.tl_core.specs.Residents.{Residents, found, block_of}
use Rattle.tl_core.specs.Puts.{KeptPut, kept_put, kept_by, kept_after, as_saved}
use Rattle.tl_core.specs.Room.{under_way}
use Rattle.tl_core.specs.State.{State, Stands, IsSound, IsJobAt, undropped_judge}
use Rattle.tl_core.specs.Taken.{IsFedBy, AreFedBy, AreSupplied, Supplies, IsTaken, IsFed, AreFed, Claimed}
use Rattle.tl_core.specs.Claims.{incarnation}
use Rattle.tl_core.specs.declared.feeds.Taken.{Taken}
use Rattle.tl_core.proofs.Told.{plain-told}
use Rattle.tl_core.proofs.Count.{under_way-few}
use Rattle.tl_core.proofs.Looking.{resident-found, saved_by}

-- ---- lawful journals

pub permitted : {T : Type 0} (header : Header) (events : List (Event T)) → is_lawful header events ≡ true → all_permitted lawful_judge header events ≡ true
permitted header events lawful = (and_parts (all_permitted lawful_judge header events) (is_quiet lawful_judge events) lawful).0

pub lawful-numbered : {T : Type 0} (header : Header) (events : List (Event T)) → is_lawful header events ≡ true → Numbered (records (without_tickets events))
lawful-numbered header events lawful =
    subst Numbered (sym (records-with (λ _. tt) events)) (all-numbered lawful_judge header events (permitted header events lawful))

-- what is known of the record that is next, and that the ledger finds it
pub record IsNextRecord {T : Type 0} (header : Header) (events : List (Event T)) (made : RecordId) : Type 0 where
  pub it : Record
  pub at : record_at (without_tickets events) made ≡ Some it
  pub id : id_of it ≡ made
  pub job : is_job it ≡ true
  pub fed : all_available (without_tickets events) (inputs_of it) ≡ true
  pub found : (answer : Option (Bor Record)) → (all_permitted lawful_judge header events ≡ true →
      option_copied answer ≡ (if is_kept (without_tickets events) made then record_at (without_tickets events) made else None)) → option_copied answer ≡ Some it

kept-found : (b : Bool) (o : Option Record) (it : Record) → b ≡ true → o ≡ Some it → (if b then o else None) ≡ Some it
kept-found true o it b is = is
kept-found false o it b is = absurd (cc)

pub next-record : {T : Type 0} (header : Header) (events : List (Event T)) (made : RecordId) → is_lawful header events ≡ true →
    next header.order (without_tickets events) ≡ Some made → IsNextRecord header events made
next-record header events made lawful is =
    let past : Past = without_tickets events in
    let it = next-is header.order past made is (lawful-numbered header events lawful) in
    let kept = next-is-kept lawful_judge header events (permitted header events lawful) made is in
    record {
      it = it.it;
      at = it.at;
      id = it.id;
      job = it.job;
      fed = it.fed;
      found = λ answer said. said (permitted header events lawful) ∙ kept-found (is_kept past made) (record_at past made) it.it kept it.at;
    }

-- ---- feeds

pub fed-more : {T : Type 0} (content : T → List ℕ) (events : List (Event T)) (residents : Residents) (fs : List FileId) (feeds : List (Feed T)) (f : FileId) (feed : Feed T) →
    AreFedBy content events residents fs feeds → IsFedBy content events residents f feed → AreFedBy content events residents (fs ++ f ∷ []) (feeds ++ feed ∷ [])
fed-more content events residents [] [] f feed all one = (one, tt)
fed-more content events residents (g ∷ fs) (x ∷ feeds) f feed all one = (all.0, fed-more content events residents fs feeds f feed all.1 one)
fed-more content events residents [] (x ∷ feeds) f feed all one = absurd all
fed-more content events residents (g ∷ fs) [] f feed all one = absurd all

pub all-get : {A : Type 0} (P : A → Type 0) (xs : List A) (i : ℕ) (x : A) → AllByRecursion P xs → slice_get xs i ≡ Some x → P x
all-get P [] i x all is = absurd (cc)
all-get P (y ∷ ys) zero x all is = let same : y ≡ x = cc in subst P same all.0
all-get P (y ∷ ys) (suc i) x all is = all-get P ys i x all.1 is

pub supplied : {T : Type 0} (events : List (Event T)) (residents : Residents) (files : List FileId) → Supplies events residents →
    all_available (without_tickets events) files ≡ true → AreSupplied events residents files
supplied events residents [] s all = tt
supplied events residents (f ∷ files) s all =
    let parts = and_parts (is_available (without_tickets events) f) (list_all (is_available (without_tickets events)) files) all in
    (s f parts.0, supplied events residents files s parts.1)

some-saved : {T : Type 0} (o : Option (KeptPut T)) → is_some (option_map as_saved o) ≡ is_some o
some-saved None = refl
some-saved (Some put) = refl

-- in a cluster what is available is held, or a put made it
pub stands-supplies : {T : Type 0} (tells : Bool) (content : T → List ℕ) (header : Header) (events : List (Event T)) (residents : Residents) (spare : ℕ) →
    Stands tells content header events residents spare → Supplies events residents
stands-supplies tells content header events residents spare s = λ f available.
    ap (λ b. b || is_some (kept_put events f)) (sym (resident-found tells content header events residents spare f (found f residents) s refl))
    ∙ ap (λ b. is_resident (without_tickets events) f || b) (sym (ap is_some (s.saved f) ∙ some-saved (kept_put events f))) ∙ available

-- ---- the turn

open-after : (b : Bool) (mine : OpenClaim) (o : Option OpenClaim) (claim : OpenClaim) (past : Past) → (if b then Some mine else o) ≡ Some claim →
    IsJobAt past mine.made → (o ≡ Some claim → IsJobAt past claim.made) → IsJobAt past claim.made
open-after true mine o claim past is own other = let same : mine ≡ claim = cc in subst (λ (c : OpenClaim). IsJobAt past c.made) same own
open-after false mine o claim past is own other = other is

pub claimed : {T : Type 0} (tells : Bool) (content : T → List ℕ) (header : Header) (events : List (Event T)) (residents : Residents) (spare room : ℕ)
    (actor : Actor) (worker : WorkerId) (made : RecordId) → Stands tells content header events residents spare → Numbered (records (without_tickets events)) →
    actor.0 < 16 → worker.0 < header.workers → may_claim (without_tickets events) actor ≡ true → next header.order (without_tickets events) ≡ Some made → 51 ≤ room →
    Stands tells content header (record { actor = actor; act = Claim worker made } ∷ events) residents (room - 1)
claimed tells content header events residents spare room actor worker made s n there known idle is enough =
    let past : Past = without_tickets events in
    let it = next-is header.order past made is n in
    let fits : is_record (next header.order past) made ≡ true = ap (λ o. is_record o made) is ∙ (record_same-Decides made made).1 refl in
    let may : (may_claim past actor && is_record (next header.order past) made) ≡ true = and_from _ _ idle fits in
    let told_may : (may_claim (without_tickets (events_with content events)) actor && is_record (next header.order (without_tickets (events_with content events))) made) ≡ true =
    subst (λ (p : Past). (may_claim p actor && is_record (next header.order p) made) ≡ true) (sym (plain-told content events)) may in
    let told_parts = and_parts (may_claim (without_tickets (events_with content events)) actor) (is_record (next header.order (without_tickets (events_with content events))) made) told_may in
    let at_worker = lt-ltb worker.0 header.workers known in
    record {
      lawful = holds-one lawful_judge header events (record { actor = actor; act = Claim worker made }) s.lawful (actor-known actor there) (and_from _ _ (and_from _ _ at_worker idle) fits) refl;
      told = λ tell. holds-one (undropped_judge header) header (events_with content events) (record { actor = actor; act = Claim worker made }) (s.told tell) (actor-known actor there)
          (and_from _ _ (and_from _ _ at_worker told_parts.0) told_parts.1) refl;
      places = s.places;
      blocks = s.blocks;
      sound = s.sound;
      saved = s.saved;
      puts = s.puts;
      whole = s.whole;
      jobs = λ a claim e. open-after (actor_same a actor) (record { worker = worker; made = made }) (open_claim past a) claim past e (it.it, it.at, it.job) (s.jobs a claim);
      room = let few : under_way (record { actor = actor; act = Claim worker made } ∷ past) ≤ 48 = under_way-few (record { actor = actor; act = Claim worker made } ∷ past) in omega arith;
    }

some-held : (o : Option Resident) → is_some o ≡ is_some (option_map block_of o)
some-held None = refl
some-held (Some r) = refl

fed_is : {T : Type 0} (tells : Bool) (content : T → List ℕ) (header : Header) (events : List (Event T)) (residents : Residents) (spare : ℕ)
    (f : FileId) (feed : Feed T) → Stands tells content header events residents spare → IsFedBy content events residents f feed →
    IsFed tells content (record { header = header; events = events; residents = residents }) f feed
fed_is tells content header events residents spare f (Have block) s fed =
    (resident-found tells content header events residents spare f (found f residents) s refl ∙ some-held (found f residents) ∙ ap is_some fed, fed)
fed_is tells content header events residents spare f (Kept g saved) s fed = (
  fed.0,
  resident-found tells content header events residents spare f None s fed.1,
  saved_by tells content header events residents spare f fed.2.0 saved s fed.2.1 fed.2.2,
)

pub feds : {T : Type 0} (tells : Bool) (content : T → List ℕ) (header : Header) (events : List (Event T)) (residents : Residents) (spare : ℕ)
    (fs : List FileId) (feeds : List (Feed T)) → Stands tells content header events residents spare → AreFedBy content events residents fs feeds →
    AreFed tells content (record { header = header; events = events; residents = residents }) fs feeds
feds tells content header events residents spare [] [] s all = tt
feds tells content header events residents spare (f ∷ fs) (feed ∷ feeds) s all =
    (fed_is tells content header events residents spare f feed s all.0, feds tells content header events residents spare fs feeds s all.1)
feds tells content header events residents spare [] (feed ∷ feeds) s all = absurd all
feds tells content header events residents spare (f ∷ fs) [] s all = absurd all

sound-of : {T : Type 0} (tells : Bool) (content : T → List ℕ) (header : Header) (events : List (Event T)) (residents : Residents) (spare : ℕ)
    (made : RecordId) (r : Record) → Stands tells content header events residents spare → record_at (without_tickets events) made ≡ Some r → IsSound r
sound-of tells content header events residents spare made r s at = all-get IsSound (records (without_tickets events)) made.0 r s.sound at

-- what a claim answers
pub claimed-work : {T : Type 0} (tells : Bool) (content : T → List ℕ) (header : Header) (events : List (Event T)) (residents : Residents) (spare : ℕ)
    (old new : State T) (actor : Actor) (worker : WorkerId) (taken : Taken T) (work : Work T) →
    record { header = header; events = events; residents = residents } ≡ old →
    new ≡ record { header = header; events = record { actor = actor; act = Claim worker taken.rec } ∷ events; residents = residents } →
    Stands tells content header events residents spare → next header.order (without_tickets events) ≡ Some taken.rec → IsTaken content events residents taken →
    work ≡ record { actor = actor; worker = worker; incarnation = incarnation events worker; place = length events; rec = taken.rec; core = taken.core; inputs = taken.inputs } →
    Claimed tells content old new actor worker (Some work)
claimed-work {T} tells content header events residents spare old new actor worker taken work old_is new_is s is taken_is work_is =
    let P : State T → Type 0 = λ o. Claimed tells content o new actor worker (Some work) in
    let it : Work T = record { actor = actor; worker = worker; incarnation = incarnation events worker; place = length events; rec = taken.rec; core = taken.core; inputs = taken.inputs } in
    let Q : Work T → Type 0 = λ w. Claimed tells content (record { header = header; events = events; residents = residents }) new actor worker (Some w) in
    let sound = sound-of tells content header events residents spare taken.rec (kind.Job taken.rec taken.core taken_is.0 taken_is.1 taken_is.2) s taken_is.3 in
    subst P old_is (subst Q (sym work_is) (
      is,
      new_is,
      refl,
      refl,
      refl,
      refl,
      (taken_is.0, taken_is.1, taken_is.2, taken_is.3, sound.0, sound.1, feds tells content header events residents spare taken_is.1 taken.inputs.items s taken_is.4),
    ))
