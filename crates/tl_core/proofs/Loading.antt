-- A read is served by a block that was loaded.
use Rattle.std.proofs.Common.{◌≡◌, ℕ, ◌<◌, ◌≤◌, Bool, true, false, not, ◌&&◌, if◌then◌else◌, bytes_eq, List, [], ◌∷◌, ◌++◌, length, Option, Some, None, is_some, option_map, refl, sym, ap, ◌∙◌, subst, arith}
use Rattle.std.proofs.lemmas.Bool.{and_from, lt-ltb}
use Rattle.std.proofs.lemmas.Slice.Eq.{bytes_eq-Decides}
use Rattle.tl_types.specs.Block.{FileOutcome}
use Rattle.tl_types.specs.Outcome.{digest_of}
use Rattle.tl_types.specs.Same.{actor_same, actor_same-Decides, file_same, file_same-Decides}
use Rattle.tl_types.specs.declared.actor.Actor.{Actor}
use Rattle.tl_types.specs.declared.digest.Digest.{Digest}
use Rattle.tl_types.specs.declared.file_id.FileId.{FileId}
use Rattle.tl_model.specs.declared.event.Act.TheVariants.{Served}
use Rattle.tl_model.specs.declared.event.Event.{Event}
use Rattle.tl_model.specs.declared.header.Header.{Header}
use Rattle.tl_model.specs.Past.{Past, events_with, without_tickets}
use Rattle.tl_model.specs.Values.{value}
use Rattle.tl_model.specs.Actors.{OpenRead, open_read, open_claim, reads_file}
use Rattle.tl_model.specs.Residency.{place, is_resident}
use Rattle.tl_model.specs.Rules.{lawful_judge, has_digest, put_of}
use Rattle.tl_types.specs.Outcome.{outcome_size}
use Rattle.tl_types.specs.Same.{digest_same-Decides}
use Rattle.tl_types.specs.declared.worker_id.WorkerId.{WorkerId}
use Rattle.tl_model.specs.declared.event.Act.TheVariants.{Load}
use Rattle.tl_model.specs.Residency.{SavedAs, saved_as, is_saved}
use Rattle.tl_laws.proofs.Permits.{holds-two, actor-known}
use Rattle.tl_core.specs.declared.resident.Resident.{Resident}
use Rattle.tl_model.specs.declared.record.Record.TheVariants as kind
use Rattle.tl_model.specs.History.{records}
use Rattle.tl_laws.proofs.Numbering.{get-within}
use Rattle.tl_core.specs.Residents.{Residents, is_of, found, place_in, worker_of}
use Rattle.tl_core.specs.Puts.{KeptPut, kept_put, as_saved}
use Rattle.tl_core.specs.Done.{or_else}
use Rattle.tl_core.specs.Room.{under_way}
use Rattle.tl_core.specs.State.{Stands, IsHeld, undropped_judge}
use Rattle.tl_core.proofs.Told.{plain-told}
use Rattle.tl_core.proofs.Count.{under_way-few}
use Rattle.tl_core.proofs.Held.{found-appended, or_else-none, if_some, all-map, all-appended}
use Rattle.tl_core.proofs.KeptPuts.{put_of-kept, length-and-digest}
use Rattle.tl_core.proofs.Carry.{same_either}
use Rattle.tl_core.proofs.Reading.{reads-it}

-- ---- a load

-- the actor's open read is on a file that is saved and in no memory
record IsLoading (past : Past) (actor : Actor) (f : FileId) : Type 0 where
  reading : reads_file f (open_read past actor) ≡ true
  store : is_saved past f ≡ true
  away : not (is_resident past f) ≡ true

if-true : {A : Type 0} (b : Bool) (x y : A) → b ≡ true → (if b then x else y) ≡ x
if-true true x y h = refl
if-true false x y h = absurd (cc)

-- the digest of a put that is saved is the one that it was saved with
saved-digest : {T : Type 0} (events : List (Event T)) (f : FileId) (digest : Digest) (known : SavedAs) (o : Option (KeptPut T)) → kept_put events f ≡ o →
    option_map as_saved o ≡ Some known → known.digest ≡ digest → has_digest (put_of events f) digest ≡ true
saved-digest events f digest known None e is same = absurd (cc)
saved-digest events f digest known (Some put) e is same =
    let it : as_saved put ≡ known = cc in
    ap (λ o. has_digest o digest) (put_of-kept events f) ∙ ap (λ o. has_digest (option_map length-and-digest o) digest) e
    ∙ (digest_same-Decides put.digest digest).1 (ap (λ (k : SavedAs). k.digest) it ∙ same)

-- where a record is, there is the number of a put
put-known : {T : Type 0} (tells : Bool) (content : T → List ℕ) (header : Header) (events : List (Event T)) (residents : Residents) (spare : ℕ) (f : FileId) (known : SavedAs)
    (o : Option (KeptPut T)) → Stands tells content header events residents spare → kept_put events f ≡ o → option_map as_saved o ≡ Some known →
    f.rec.0 < length (records (without_tickets events))
put-known tells content header events residents spare f known None s e is = absurd (cc)
put-known tells content header events residents spare f known (Some put) s e is =
    get-within (records (without_tickets events)) f.rec.0 (kind.Put f.rec) (s.puts f put e).0

found-more : (f : FileId) (residents : Residents) (r : Resident) (g : FileId) → r.block.file ≡ f → found f residents ≡ None →
    (b : Bool) → file_same g f ≡ b → place_in g (residents ++ r ∷ []) ≡ (if b then Some r.worker else place_in g residents)
found-more f residents r g of gone true e =
    let same : g ≡ f = (file_same-Decides g f).0 e in
    let here : is_of g r ≡ true = (file_same-Decides g r.block.file).1 (same ∙ sym of) in
    ap (option_map worker_of) (found-appended g residents r)
    ∙ ap (λ o. option_map worker_of (or_else o (if_some (is_of g r) r))) (ap (λ (x : FileId). found x residents) same ∙ gone)
    ∙ ap (λ b. option_map worker_of (if_some b r)) here
found-more f residents r g of gone false e =
    let other : is_of g r ≡ false = ap (file_same g) of ∙ e in
    ap (option_map worker_of) (found-appended g residents r)
    ∙ ap (λ b. option_map worker_of (or_else (found g residents) (if_some b r))) other
    ∙ ap (option_map worker_of) (or_else-none (found g residents))

not-same : (past : Past) (g f : FileId) (w : WorkerId) (b : Bool) → file_same g f ≡ b → place past g ≡ Some w → place past f ≡ None → b ≡ false
not-same past g f w true e at nowhere = absurd (let h : Some w ≡ None = sym at ∙ ap (place past) ((file_same-Decides g f).0 e) ∙ nowhere in cc)
not-same past g f w false e at nowhere = refl

loads-at : (past : Past) (g f : FileId) (worker w : WorkerId) (b : Bool) → file_same g f ≡ b → b ≡ false → place past g ≡ Some w → (if b then Some worker else place past g) ≡ Some w
loads-at past g f worker w true e is at = absurd (cc)
loads-at past g f worker w false e is at = at

pub brought : {T : Type 0} (tells : Bool) (content : T → List ℕ) (header : Header) (events : List (Event T)) (residents : Residents) (spare room : ℕ)
    (actor : Actor) (worker : WorkerId) (block : FileOutcome) (digest : Digest) (read : OpenRead) →
    Stands tells content header events residents spare → open_read (without_tickets events) actor ≡ Some read → block.file ≡ read.file → actor.0 < 16 → worker.0 < header.workers →
    found block.file residents ≡ None →
    saved_as (without_tickets events) block.file ≡ Some (record { size = outcome_size block.outcome; digest = record { 0 = digest_of block.outcome } }) →
    (tells ≡ true → block.outcome ≡ value (events_with content events) block.file) → digest.0 ≡ digest_of block.outcome → 48 ≤ room →
    Stands tells content header (record { actor = actor; act = Served block.file digest } ∷ record { actor = actor; act = Load worker block.file } ∷ events)
    (residents ++ record { worker = worker; block = block } ∷ []) room
brought tells content header events residents spare room actor worker block digest read s is file_is there known gone saved val digests enough =
    let past : Past = without_tickets events in
    let f : FileId = block.file in
    let known_as : SavedAs = record { size = outcome_size block.outcome; digest = record { 0 = digest_of block.outcome } } in
    let load : Event _ = record { actor = actor; act = Load worker f } in
    let told_load : Event (List ℕ) = record { actor = actor; act = Load worker f } in
    let serve : Event _ = record { actor = actor; act = Served f digest } in
    let told_serve : Event (List ℕ) = record { actor = actor; act = Served f digest } in
    let kept : option_map as_saved (kept_put events f) ≡ Some known_as = sym (s.saved f) ∙ saved in
    let it : known_as.digest ≡ digest = λ i. record { 0 = sym digests i } in
    let fits_digest : has_digest (put_of events f) digest ≡ true = saved-digest events f digest known_as (kept_put events f) refl kept it in
    let me : actor_same actor actor ≡ true = (actor_same-Decides actor actor).1 refl in
    let self : file_same f f ≡ true = (file_same-Decides f f).1 refl in
    let pay : (actor_same actor actor && file_same f f) ≡ true = and_from _ _ me self in
    let nowhere : place past f ≡ None = sym (s.places f) ∙ ap (option_map worker_of) gone in
    let away : not (is_resident past f) ≡ true = ap (λ (o : Option WorkerId). not (is_some o)) nowhere in
    let is_in_store : is_saved past f ≡ true = ap is_some saved in
    let reads : reads_file f (open_read past actor) ≡ true = ap (λ (g : FileId). reads_file g (open_read past actor)) file_is ∙ reads-it past actor read is in
    let at_worker = lt-ltb worker.0 header.workers known in
    let facts : IsLoading past actor f = record { reading = reads; store = is_in_store; away = away } in
    let told_facts : IsLoading (without_tickets (events_with content events)) actor f = subst (λ (p : Past). IsLoading p actor f) (sym (plain-told content events)) facts in
    record {
      lawful = holds-two lawful_judge header events load serve s.lawful (actor-known actor there)
          (and_from _ _ (and_from _ _ (and_from _ _ at_worker facts.reading) facts.store) facts.away) pay (actor-known actor there)
          (and_from _ _ (and_from _ _ (ap (reads_file f) (same_either (actor_same actor actor) (open_read past actor)) ∙ facts.reading)
          (ap is_some (if-true (file_same f f) (Some worker) (place past f) self))) fits_digest) refl;
      told = λ tell.
          let told = events_with content events in
          let same : bytes_eq (digest_of (value told f)) digest.0 ≡ true =
          (bytes_eq-Decides (digest_of (value told f)) digest.0).1 (ap digest_of (sym (val tell)) ∙ sym digests) in
          holds-two (undropped_judge header) header told told_load told_serve (s.told tell) (actor-known actor there)
          (and_from _ _ (and_from _ _ (and_from _ _ at_worker told_facts.reading) told_facts.store) told_facts.away) pay (actor-known actor there)
          (and_from _ _ (and_from _ _ (ap (reads_file f) (same_either (actor_same actor actor) (open_read (without_tickets told) actor)) ∙ told_facts.reading)
          (ap is_some (if-true (file_same f f) (Some worker) (place (without_tickets told) f) self))) same) refl;
      places = λ g. found-more f residents (record { worker = worker; block = block }) g refl gone (file_same g f) refl
          ∙ ap (λ (o : Option WorkerId). if file_same g f then Some worker else o) (s.places g);
      blocks = all-appended (IsHeld tells content (serve ∷ load ∷ events)) residents (record { worker = worker; block = block })
          (all-map (IsHeld tells content events) (IsHeld tells content (serve ∷ load ∷ events))
          (λ r h. (
            loads-at past r.block.file f worker r.worker (file_same r.block.file f) refl
                (not-same past r.block.file f r.worker (file_same r.block.file f) refl h.0 nowhere) h.0,
            h.1,
          )) residents s.blocks) (
            if-true (file_same f f) (Some worker) (place past f) self,
            (
              put-known tells content header events residents spare f known_as (kept_put events f) s refl kept,
              ap (λ (d : List ℕ). has_digest (put_of events f) (record { 0 = d })) (sym digests) ∙ fits_digest,
              val,
            ),
          );
      sound = s.sound;
      saved = s.saved;
      puts = s.puts;
      whole = s.whole;
      jobs = λ a claim e. s.jobs a claim (sym (same_either (actor_same a actor) (open_claim past a)) ∙ sym (same_either (actor_same a actor) _) ∙ e);
      room = let few : under_way (without_tickets (serve ∷ load ∷ events)) ≤ 48 = under_way-few (without_tickets (serve ∷ load ∷ events)) in omega arith;
    }
