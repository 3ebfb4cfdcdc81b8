-- A block is loaded, and serves the read for which it was loaded.
use Rattle.std.proofs.Common.{◌≡◌, ℕ, ◌+◌, ◌<◌, ◌≤◌, ◌==◌, Bool, true, false, ◌&&◌, not, if◌then◌else◌, bytes_eq, List, ◌∷◌, length, Option, Some, None, inl, inr, is_some, refl, sym, ap, ◌∙◌, subst, arith}
use Rattle.std.proofs.lemmas.Bool.{and_from, and_parts, lt-ltb}
use Rattle.std.proofs.lemmas.Slice.Eq.{bytes_eq-Decides}
use Rattle.tl_types.specs.Block.{FileOutcome}
use Rattle.tl_types.specs.Outcome.{digest_of, outcome_size}
use Rattle.tl_types.specs.Same.{actor_same, actor_same-Decides, file_same, file_same-Decides}
use Rattle.tl_types.specs.declared.actor.Actor.{Actor}
use Rattle.tl_types.specs.declared.digest.Digest.{Digest}
use Rattle.tl_types.specs.declared.file_id.FileId.{FileId}
use Rattle.tl_types.specs.declared.worker_id.WorkerId.{WorkerId}
use Rattle.tl_model.specs.declared.event.Act.{Act}
use Rattle.tl_model.specs.declared.event.Act.TheVariants.{Load, Served}
use Rattle.tl_model.specs.declared.event.Event.{Event}
use Rattle.tl_model.specs.Past.{Past, events_with, without_tickets}
use Rattle.tl_model.specs.Values.{value}
use Rattle.tl_model.specs.declared.header.Header.{Header}
use Rattle.tl_model.specs.History.{has_output, record_at, records}
use Rattle.tl_model.specs.Actors.{OpenRead, open_read, open_claim, open_save, reads_file}
use Rattle.tl_model.specs.Residency.{SavedAs, is_resident, is_saved, place, saved_as}
use Rattle.tl_model.specs.Rules.{has_digest, is_known_worker, is_permitted, lawful_judge, legal_judge, put_of, has_size_and_digest, size_of}
use Rattle.tl_laws.proofs.Numbering.{get-within}
use Rattle.tl_laws.proofs.Permits.{actor-known, holds-two, permits}
use Rattle.tl_steps.proofs.Within.{all-within}
use Rattle.tl_fleet.specs.Order.{StandsInOrder, is_made}
use Rattle.tl_fleet.specs.Workers.{Workers, all_touched, found, held_count, installed, put_front, with_blocks}
use Rattle.tl_fleet.specs.Workers as fleet
use Rattle.tl_fleet.proofs.Events.{load_stands, served_stands}
use Rattle.tl_fleet.proofs.Files.{either, same_self}
use Rattle.tl_fleet.proofs.Found.{one_brought, one_touched}
use Rattle.tl_fleet.proofs.Held.{installed_held, touched_held}
use Rattle.tl_fleet.proofs.Incarnations.{changed_same, mapped_same}
use Rattle.tl_fleet.proofs.Places.{resident_same}
use Rattle.tl_fleet.proofs.Single.{stands_once}
use Rattle.tl_fleet.proofs.Sizes.{stands_by_other}
use Rattle.tl_store.specs.Contents.{block_size, touched}
use Rattle.tl_cluster.specs.Main.{with_loaded, with_served}
use Rattle.tl_cluster.specs.Room.{under_way}
use Rattle.tl_cluster.specs.Saves.{saved_block}
use Rattle.tl_cluster.specs.Stands.{Agrees, Fits, PartsState, Stands}
use Rattle.tl_cluster.proofs.Carry.{same_either}
use Rattle.tl_cluster.proofs.Count.{under_way-few}
use Rattle.tl_cluster.proofs.Reading.{reads-it}
use Rattle.tl_cluster.proofs.Steps.{lawful-permitted, told-goes-on}
use Rattle.tl_cluster.proofs.Told.{plain-told}

-- sizes with that of one file's block
abbrev pub sizes_with : FileOutcome → (FileId → ℕ) → FileId → ℕ
sizes_with block sizes f = if file_same f block.file then block_size block else sizes f

if-true : {A : Type 0} (b : Bool) (x y : A) → b ≡ true → (if b then x else y) ≡ x
if-true true x y h = refl
if-true false x y h = absurd (cc)

not-there : (b : Bool) (here there : ℕ) (o : Option WorkerId) → (b ≡ true → o ≡ None) → is_some o ≡ true → (if b then here else there) ≡ there
not-there true here there o none some = let n : o ≡ None = none refl in absurd (cc)
not-there false here there o none some = refl

-- the fleet stands by the sizes with that of a file that is nowhere
pub stands-with : (sizes : FileId → ℕ) (block : FileOutcome) (header : Header) (past : Past) (workers : Workers) → place past block.file ≡ None →
    StandsInOrder sizes header past workers → StandsInOrder (sizes_with block sizes) header past workers
stands-with sizes block header past workers nowhere stands =
    stands_by_other sizes (sizes_with block sizes) header past workers
    (λ f there. not-there (file_same f block.file) (block_size block) (sizes f) (place past f)
    (λ same. ap (place past) ((file_same-Decides f block.file).0 same) ∙ nowhere) there) stands

digest-fits : (o : Option (ℕ × Digest)) (size : ℕ) (digest : Digest) → has_size_and_digest o size digest ≡ true → has_digest o digest ≡ true
digest-fits None size digest h = refl
digest-fits (Some put) size digest h = (and_parts (put.0 == size) _ h).1

gone : (o : Option WorkerId) → is_some o ≡ false → o ≡ None
gone None h = refl
gone (Some w) h = absurd (cc)

made-within : (past : Past) (f : FileId) → is_made past f ≡ true → f.rec.0 < length (records past)
made-within past f made = within (record_at past f.rec) refl made
  where
    within : (o : Option _) → record_at past f.rec ≡ o → has_output o f.out ≡ true → f.rec.0 < length (records past)
    within None e h = absurd (cc)
    within (Some r) e h = get-within (records past) f.rec.0 r e

-- what is found once a block came and was used
loaded-found : (g : FileId) (w v : WorkerId) (block b : FileOutcome) (workers : Workers) (of : Bool) → file_same g block.file ≡ of →
    (if of then Some (w, block) else found g workers) ≡ Some (v, b) → (of ≡ true → block ≡ b) × (of ≡ false → found g workers ≡ Some (v, b))
loaded-found g w v block b workers true e is =
    let pair : (w, block) ≡ (v, b) = cc in
    ((λ t. ap (λ (p : WorkerId × FileOutcome). p.1) pair), (λ f. absurd (cc)))
loaded-found g w v block b workers false e is = ((λ t. absurd (cc)), (λ f. is))

pub loaded : {T : Type 0} (tells : Bool) (content : T → List ℕ) (parts : PartsState T) (actor : Actor) (worker : WorkerId) (block : FileOutcome) (digest : Digest) →
    Stands tells content parts → actor.0 < 16 → worker.0 < parts.header.workers →
    ((read : OpenRead) × (open_read (without_tickets parts.events) actor ≡ Some read) × (read.file ≡ block.file)) →
    saved_as (without_tickets parts.events) block.file ≡ Some (saved_block block) →
    (tells ≡ true → block.outcome ≡ value (events_with content parts.events) block.file) →
    is_resident (without_tickets parts.events) block.file ≡ false → digest.0 ≡ digest_of block.outcome →
    51 + held_count parts.workers + 1 ≤ parts.spare →
    Agrees tells content (with_served actor block.file digest (with_loaded actor worker block parts))
loaded tells content parts actor worker block digest s known within reading saved values nowhere digests room =
    let a : Agrees tells content parts = s.agrees in
    let past : Past = without_tickets parts.events in
    let told = events_with content parts.events in
    let f : FileId = block.file in
    let load : Event _ = record { actor = actor; act = Load worker f } in
    let serve : Event _ = record { actor = actor; act = Served f digest } in
    let none : place past f ≡ None = gone (place past f) nowhere in
    let reads : reads_file f (open_read past actor) ≡ true =
    subst (λ (g : FileId). reads_file g (open_read past actor) ≡ true) reading.2 (reads-it past actor reading.0 reading.1) in
    let is_here : is_saved past f ≡ true = ap (λ (o : Option SavedAs). is_some o) saved in
    let loads : (is_known_worker parts.header worker && reads_file f (open_read past actor) && is_saved past f && not (is_resident past f)) ≡ true =
    and_from _ _ (and_from _ _ (and_from _ _ (lt-ltb worker.0 parts.header.workers within) reads) is_here) (ap not nowhere) in
    let still : reads_file f (if actor_same actor actor then open_read past actor else open_read past actor) ≡ true =
    ap (reads_file f) (same_either (actor_same actor actor) (open_read past actor)) ∙ reads in
    let here : is_resident (record { actor = actor; act = Load worker f } ∷ past) f ≡ true =
    ap (λ (o : Option WorkerId). is_some o) (if-true (file_same f f) (Some worker) (place past f) (same_self f)) in
    let fits : has_digest (put_of parts.events f) digest ≡ true =
    ap (λ (d : List ℕ). has_digest (put_of parts.events f) (record { 0 = d })) digests
    ∙ digest-fits (put_of parts.events f) (outcome_size block.outcome) (record { 0 = digest_of block.outcome }) (a.saved f (saved_block block) saved) in
    let pays-it : (actor_same actor actor && file_same f f) ≡ true = and_from _ _ ((actor_same-Decides actor actor).1 refl) (same_self f) in
    let made : is_made past f ≡ true = (all-within lawful_judge parts.header parts.events (lawful-permitted parts.header parts.events a.lawful)).saved f is_here in
    let there : worker.0 < length parts.workers = subst (λ (n : ℕ). worker.0 < n) (sym a.sized.1.0) within in
    let absent : fleet.is_resident f parts.workers ≡ false = resident_same a.sized.0 parts.header past parts.workers f a.sized.1 ∙ nowhere in
    let once = stands_once a.sized.0 parts.header past parts.workers a.sized.1 in
    let sizes = sizes_with block a.sized.0 in
    let size_is : block_size block ≡ sizes f = sym (if-true (file_same f f) (block_size block) (a.sized.0 f) (same_self f)) in
    let stands = load_stands sizes parts.header past parts.workers (stands-with a.sized.0 block parts.header past parts.workers none a.sized.1)
    actor worker block there absent (size_is, made) in
    let new : Workers = installed worker block parts.workers in
    let new_once = stands_once sizes parts.header (record { actor = actor; act = Load worker f } ∷ past) new stands in
    let one : held_count new ≡ held_count parts.workers + 1 = installed_held worker block parts.workers there in
    let same : held_count (all_touched f new) ≡ held_count new = touched_held f new new_once in
    let few : under_way (record { actor = actor; act = Served f digest } ∷ record { actor = actor; act = Load worker f } ∷ past) ≤ 48 =
    under_way-few (record { actor = actor; act = Served f digest } ∷ record { actor = actor; act = Load worker f } ∷ past) in
    record {
      lawful = holds-two lawful_judge parts.header parts.events load serve a.lawful (actor-known actor known) loads pays-it (actor-known actor known)
          (and_from _ _ (and_from _ _ still here) fits) refl;
      permitted = λ tell.
          let serve_told : Act (List ℕ) = Served f digest in
          let told_past : without_tickets told ≡ past = plain-told content parts.events in
          let served_as : bytes_eq (digest_of (value told f)) digest.0 ≡ true =
          (bytes_eq-Decides (digest_of (value told f)) digest.0).1 (ap digest_of (sym (values tell)) ∙ sym digests) in
          permits (legal_judge parts.header) parts.header (record { actor = actor; act = Load worker f } ∷ told) (record { actor = actor; act = Served f digest })
          (told-goes-on tells content parts actor (Load worker f) s known tell loads) pays-it (actor-known actor known)
          (subst (λ (p : Past). is_permitted (legal_judge parts.header) parts.header (record { actor = actor; act = Load worker f } ∷ told)
          (record { actor = actor; act = Load worker f } ∷ p) actor serve_told ≡ true) (sym told_past)
          (and_from _ _ (and_from _ _ still here) served_as));
      sized = (sizes, served_stands sizes parts.header (record { actor = actor; act = Load worker f } ∷ past) new stands actor f digest);
      told_sized = λ tell.
          served_stands (size_of told) parts.header (record { actor = actor; act = Load worker f } ∷ past) new
          (load_stands (size_of told) parts.header past parts.workers (a.told_sized tell) actor worker block there absent
          (ap outcome_size (values tell), made)) actor f digest;
      blocks = λ g v b found_it.
          let shown = loaded-found g worker v block b parts.workers (file_same g f) refl
          (sym (one_brought g worker block parts.workers there absent) ∙ sym (one_touched g f new) ∙ found_it) in
          elim (either (file_same g f)) [
            | inl there_is ↦ subst (Fits tells content parts.events) (shown.0 there_is) (
              made-within past f made,
              digest-fits (put_of parts.events f) (outcome_size block.outcome) (record { 0 = digest_of block.outcome }) (a.saved f (saved_block block) saved),
              values,
            )
            | inr other ↦ a.blocks g v b (shown.1 other)
          ];
      losses = λ v n e. a.losses v n
          (sym (changed_same (put_front block) v.0 worker.0 parts.workers) ∙ sym (mapped_same (touched f) v.0 new) ∙ e);
      sound = a.sound;
      kept = a.kept;
      saved = a.saved;
      puts = a.puts;
      jobs = λ b claim e. a.jobs b claim (sym (same_either (actor_same b actor) (open_claim past b)) ∙ sym (same_either (actor_same b actor) _) ∙ e);
      places = λ b g e. a.places b g (sym (same_either (actor_same b actor) (open_save past b)) ∙ sym (same_either (actor_same b actor) _) ∙ e);
      room = omega arith;
    }
