-- What is so of a job right after its claim.
use Rattle.std.proofs.Common.{◌≡◌, inl, inr, ℕ, suc, Bool, true, false, List, [], ◌∷◌, ◌++◌, length, map, slice_get, Option, Some, if◌then◌else◌, refl, sym, ap, ◌∙◌, subst, append_assoc, arith}
use Rattle.std.specs.List.{AllByRecursion, list_any}
use Rattle.tl_laws_progress.proofs.Fewer.{or-left, or-right}
use Rattle.tl_types.specs.Same.{file_same, file_same-Decides}
use Rattle.tl_types.specs.declared.record_id.RecordId.{RecordId}
use Rattle.tl_model.specs.declared.record.Record.TheVariants as kind
use Rattle.std.proofs.lemmas.List.Elements.{All-from_recursion}
use Rattle.tl_types.specs.declared.actor.Actor.{Actor}
use Rattle.tl_types.specs.declared.digest.Digest.{Digest}
use Rattle.tl_types.specs.declared.file_id.FileId.{FileId}
use Rattle.tl_types.specs.declared.outcome.Outcome.{Outcome}
use Rattle.tl_types.specs.declared.worker_id.WorkerId.{WorkerId}
use Rattle.tl_model.specs.declared.answer.Damage.{Damage}
use Rattle.tl_model.specs.declared.event.Act.TheVariants.{Claim, Drop}
use Rattle.tl_model.specs.declared.record.Record.{Record}
use Rattle.tl_model.specs.declared.saved.Saved.{Saved}
use Rattle.tl_model.specs.declared.saved.Saved.TheVariants.{Held, Failed}
use Rattle.tl_model.specs.Actors.{open_claim}
use Rattle.tl_model.specs.History.{HistoryOf, calls_of, record_at, records_of}
use Rattle.tl_model.specs.Past.{Past, events_with, without_tickets}
use Rattle.tl_model.specs.Residency.{SavedAs, claim_reads, reads_of_claim}
use Rattle.tl_model.specs.Values.{outcome_in, outcomes_of, value}
use Rattle.tl_laws_drops.specs.Drops.{with_drops}
use Rattle.tl_laws_drops.proofs.ManyDrops.{calls-kept, claim-kept}
use Rattle.tl_laws_drops.proofs.Tickets.{drops-with, drops-without-tickets}
use Rattle.tl_vault.specs.Load.{Fits}
use Rattle.tl_cluster.specs.declared.work.Feed.{Feed}
use Rattle.tl_cluster.specs.declared.work.Feed.TheVariants.{Have, Kept}
use Rattle.tl_cluster.specs.declared.work.Work.{Work}
use Rattle.tl_cluster.specs.Kept.{IsSavedFor}
use Rattle.tl_cluster.specs.Looks.{IsSavedOf}
use Rattle.tl_cluster.specs.Losses.{incarnation}
use Rattle.tl_desk.specs.Finds.{Post}
use Rattle.tl_desk.specs.Turns.{AreFed, Claims, IsFed, IsNextWork}
use Rattle.tl_pieces.specs.Setting.{Setting, Events, event_by}
use Rattle.tl_pieces.specs.Faults.{IsDamage}
use Rattle.tl_work.specs.Loads.{IsDamageAmong, IsDamageOf, IsLoadable, IsLoadableFeed, fed_outcome, saved_outcome}
use Rattle.tl_work.specs.Runs.{IsTakenUp, is_input}
use Rattle.tl_work.specs.Setting.{setting}
use Rattle.tl_work.proofs.Finding.{same-actor}

-- ---- a saved value

pub can-be-loaded : {T : Type 0} (tells : Bool) (content : T → List ℕ) (known : SavedAs) (outcome : Outcome) (saved : Saved T) →
    IsSavedFor tells content known outcome saved → IsLoadable saved
can-be-loaded tells content known outcome (Held ticket len digest) h = h.1
can-be-loaded tells content known outcome (Failed code) h = omega arith

pub saved-is : {T : Type 0} (tells : Bool) (content : T → List ℕ) (known : SavedAs) (outcome : Outcome) (saved : Saved T) →
    IsSavedFor tells content known outcome saved → tells ≡ true → saved_outcome content saved ≡ outcome
saved-is tells content known outcome (Held ticket len digest) h told = sym (h.2 told).0
saved-is tells content known outcome (Failed code) h told = sym (h.1 told)

never-told : (tells : Bool) → (tells ≡ true → ⊥) → tells ≡ false
never-told true never = absurd (never refl)
never-told false never = refl

fits-same : (len len' : ℕ) (digest digest' : Digest) (bytes : List ℕ) → len' ≡ len → digest' ≡ digest → Fits len' digest' bytes → Fits len digest bytes
fits-same len len' digest digest' bytes same same' f = record {
  of_len = f.of_len ∙ same;
  of_digest = f.of_digest ∙ ap (λ (d : Digest). d.0) same';
}

-- a damage of what is saved of a file
pub damage-of : {T : Type 0} (s : Setting T) (is_loaded : Past → FileId → Bool) (events : Events T) (f : FileId) (saved : Saved T) (damage : Damage) →
    is_loaded (without_tickets events) f ≡ true → IsSavedOf s.tells s.content events f saved → IsDamageOf s.tells s.content saved damage →
    IsDamage s is_loaded events damage
damage-of s is_loaded events f (Held ticket len digest) damage loaded h d =
    let known = h.0 in
    let kept : known ≡ record { size = len; digest = digest } = h.2.0 in
    record {
      file = f;
      at = events;
      later = [];
      within = refl;
      loaded = loaded;
      kept = h.1 ∙ ap (λ k. Some k) kept ∙ (λ i. Some (record { size = sym d.1.kept_len i; digest = sym d.1.kept i }));
      differs = λ len_is digest_is. d.1.differs
          (fits-same len damage.got_len digest damage.got d.0 (len_is ∙ d.1.kept_len) (digest_is ∙ d.1.kept) d.1.got);
      untold = never-told s.tells (λ told. d.2 told (record { of_len = (h.2.2 told).1; of_digest = (h.2.2 told).2 }));
    }
damage-of s is_loaded events f (Failed code) damage loaded h d = absurd d

-- ---- feeds

feeds-loadable : {T : Type 0} (tells : Bool) (content : T → List ℕ) (events : Events T) (files : List FileId) (feeds : List (Feed T)) →
    AreFed tells content events files feeds → AllByRecursion IsLoadableFeed feeds
feeds-loadable tells content events [] [] h = tt
feeds-loadable tells content events (f ∷ files) (Have block ∷ feeds) h = (tt, feeds-loadable tells content events files feeds h.1)
feeds-loadable tells content events (f ∷ files) (Kept g saved ∷ feeds) h =
    (can-be-loaded tells content h.0.2.0 (value (events_with content events) f) saved h.0.2.2, feeds-loadable tells content events files feeds h.1)
feeds-loadable tells content events [] (feed ∷ feeds) h = absurd h
feeds-loadable tells content events (f ∷ files) [] h = absurd h

feeds-count : {T : Type 0} (tells : Bool) (content : T → List ℕ) (events : Events T) (files : List FileId) (feeds : List (Feed T)) →
    AreFed tells content events files feeds → length feeds ≡ length files
feeds-count tells content events [] [] h = refl
feeds-count tells content events (f ∷ files) (feed ∷ feeds) h = ap suc (feeds-count tells content events files feeds h.1)
feeds-count tells content events [] (feed ∷ feeds) h = absurd h
feeds-count tells content events (f ∷ files) [] h = absurd h

feed-is : {T : Type 0} (tells : Bool) (content : T → List ℕ) (events : Events T) (f : FileId) (feed : Feed T) → IsFed tells content events f feed →
    tells ≡ true → fed_outcome content feed ≡ value (events_with content events) f
feed-is tells content events f (Have block) h told = h.1.1 told
feed-is tells content events f (Kept g saved) h told = saved-is tells content h.2.0 (value (events_with content events) f) saved h.2.2 told

feeds-are : {T : Type 0} (tells : Bool) (content : T → List ℕ) (events : Events T) (files : List FileId) (feeds : List (Feed T)) →
    AreFed tells content events files feeds → tells ≡ true → map (fed_outcome content) feeds ≡ map (value (events_with content events)) files
feeds-are tells content events [] [] h told = refl
feeds-are tells content events (f ∷ files) (feed ∷ feeds) h told =
    ap (λ o. o ∷ map (fed_outcome content) feeds) (feed-is tells content events f feed h.0 told)
    ∙ ap (λ os. value (events_with content events) f ∷ os) (feeds-are tells content events files feeds h.1 told)
feeds-are tells content events [] (feed ∷ feeds) h told = absurd h
feeds-are tells content events (f ∷ files) [] h told = absurd h

feeds-damage : {T : Type 0} (s : Setting T) (is_loaded : Past → FileId → Bool) (events : Events T) (files : List FileId) (feeds : List (Feed T)) (damage : Damage) →
    AllByRecursion (λ f. is_loaded (without_tickets events) f ≡ true) files → AreFed s.tells s.content events files feeds →
    IsDamageAmong s.tells s.content feeds damage → IsDamage s is_loaded events damage
feeds-damage s is_loaded events [] [] damage loaded h d = absurd d
feeds-damage s is_loaded events (f ∷ files) (Have block ∷ feeds) damage loaded h (inl d) = absurd d
feeds-damage s is_loaded events (f ∷ files) (Kept g saved ∷ feeds) damage loaded h (inl d) = damage-of s is_loaded events f saved damage loaded.0 h.0.2 d
feeds-damage s is_loaded events (f ∷ files) (feed ∷ feeds) damage loaded h (inr d) = feeds-damage s is_loaded events files feeds damage loaded.1 h.1 d
feeds-damage s is_loaded events [] (feed ∷ feeds) damage loaded h d = absurd h
feeds-damage s is_loaded events (f ∷ files) [] damage loaded h d = absurd h

any-later : (f g : FileId) (files : List FileId) → list_any (file_same f) files ≡ true → list_any (file_same f) (g ∷ files) ≡ true
any-later f g files h = or-right (file_same f g) (list_any (file_same f) files) h

all-later : (g : FileId) (inputs files : List FileId) → AllByRecursion (λ f. list_any (file_same f) inputs ≡ true) files →
    AllByRecursion (λ f. list_any (file_same f) (g ∷ inputs) ≡ true) files
all-later g inputs [] h = tt
all-later g inputs (f ∷ files) h = (any-later f g inputs h.0, all-later g inputs files h.1)

each-there : (inputs : List FileId) → AllByRecursion (λ f. list_any (file_same f) inputs ≡ true) inputs
each-there [] = tt
each-there (f ∷ inputs) =
    (or-left (file_same f f) (list_any (file_same f) inputs) ((file_same-Decides f f).1 refl), all-later f inputs inputs (each-there inputs))

each-read : (past : Past) (made : RecordId) (r : Option Record) (files : List FileId) → r ≡ record_at past made →
    AllByRecursion (λ f. claim_reads past f r ≡ true) files → AllByRecursion (λ f. reads_of_claim past f made ≡ true) files
each-read past made r files back h = subst (λ (o : Option Record). AllByRecursion (λ f. claim_reads past f o ≡ true) files) back h

-- ---- the events of the turn

pub calls-left : {T : Type 0} (actor : Actor) (ds : List (WorkerId × FileId)) (events : Events T) → calls_of (with_drops actor ds events) ≡ calls_of events
calls-left actor [] events = refl
calls-left actor (d ∷ ds) events = calls-left actor ds events

losses-left : {T : Type 0} (actor : Actor) (ds : List (WorkerId × FileId)) (events : Events T) (worker : WorkerId) →
    incarnation (with_drops actor ds events) worker ≡ incarnation events worker
losses-left actor [] events worker = refl
losses-left actor (d ∷ ds) events worker = losses-left actor ds events worker

-- a claim and drops leave what a file holds
pub values-left : {T : Type 0} (content : T → List ℕ) (actor : Actor) (ds : List (WorkerId × FileId)) (events : Events T) (f : FileId) →
    value (events_with content (with_drops actor ds events)) f ≡ value (events_with content events) f
values-left content actor ds events f =
    ap (λ past. value past f) (drops-with content actor ds events)
    ∙ ap (λ (calls : HistoryOf (List ℕ)). outcome_in (outcomes_of calls) f) (calls-left actor ds (events_with content events))

map-same : {A B : Type 0} (f g : A → B) (xs : List A) → ((x : A) → f x ≡ g x) → map f xs ≡ map g xs
map-same f g [] same = refl
map-same f g (x ∷ xs) same = ap (λ y. y ∷ map f xs) (same x) ∙ ap (λ ys. g x ∷ ys) (map-same f g xs same)

-- a damage stays one in a longer journal
pub damage-on : {T : Type 0} (s : Setting T) (is_loaded : Past → FileId → Bool) (events new more : Events T) (damage : Damage) → new ≡ more ++ events →
    IsDamage s is_loaded events damage → IsDamage s is_loaded new damage
damage-on s is_loaded events new more damage longer d = record {
  file = d.file;
  at = d.at;
  later = more ++ d.later;
  within = longer ∙ ap (λ es. more ++ es) d.within ∙ sym (append_assoc more d.later d.at);
  loaded = d.loaded;
  kept = d.kept;
  differs = d.differs;
  untold = d.untold;
}

drops-front : {T : Type 0} (actor : Actor) (ds : List (WorkerId × FileId)) (events : Events T) → with_drops actor ds events ≡ with_drops actor ds [] ++ events
drops-front actor [] events = refl
drops-front actor (d ∷ ds) events = ap (λ later. record { actor = actor; act = Drop d.0 d.1 } ∷ later) (drops-front actor ds events)

-- right after its claim
pub taken-up : {T : Type 0} (whole tells : Bool) (content : T → List ℕ) (post : Post) (worker : WorkerId) (seen new : Events T) (work : Work T) →
    Claims whole tells content post worker seen new (Some work) →
    IsTakenUp (setting whole tells content post worker) work new
taken-up {T} whole tells content post worker seen new work t =
    let s : Setting T = setting whole tells content post worker in
    let so : IsNextWork tells content post worker work t.found = t.so in
    let ds = t.turned.0 in
    let claimed : Events T = event_by post.actor (Claim worker work.rec) ∷ t.found in
    let after : new ≡ with_drops post.actor ds claimed = t.turned.1 in
    let past : without_tickets new ≡ _ = ap without_tickets after ∙ drops-without-tickets post.actor ds claimed in
    record {
      for_actor = so.for_actor;
      on_worker = so.on_worker;
      losses =
          ap (λ es. incarnation es work.worker) after ∙ losses-left post.actor ds claimed work.worker
          ∙ ap (incarnation t.found) so.on_worker ∙ sym so.losses;
      claim =
          ap (λ p. open_claim p work.actor) past
          ∙ claim-kept post.actor ds (without_tickets claimed) work.actor
          ∙ ap (open_claim (without_tickets claimed)) so.for_actor
          ∙ ap (λ b. if b then Some (record { worker = worker; made = work.rec }) else open_claim (without_tickets t.found) post.actor) (same-actor post.actor)
          ∙ (λ i. Some (record { worker = sym so.on_worker i; made = work.rec }));
      prio = so.prio;
      inputs = so.inputs;
      outputs = so.outputs;
      job =
          ap (λ es. record_at es work.rec) past
          ∙ ap (λ (calls : HistoryOf (Unit {0})). slice_get (records_of calls) work.rec.0) (calls-kept post.actor ds (without_tickets claimed))
          ∙ so.job;
      takes = so.takes;
      makes = so.makes;
      feeds = feeds-count tells content t.found so.inputs work.inputs.items so.fed;
      loadable = All-from_recursion IsLoadableFeed work.inputs.items (feeds-loadable tells content t.found so.inputs work.inputs.items so.fed);
      told = λ told.
          feeds-are tells content t.found so.inputs work.inputs.items so.fed told
          ∙ map-same (value (events_with content t.found)) (value (events_with content new)) so.inputs
          (λ f. sym (ap (λ es. value (events_with content es) f) after ∙ values-left content post.actor ds claimed f));
      damage = λ damage among.
          damage-on s (is_input work.rec) t.found new (with_drops post.actor ds [] ++ event_by post.actor (Claim worker work.rec) ∷ []) damage
          (after ∙ drops-front post.actor ds claimed ∙ sym (append_assoc (with_drops post.actor ds []) (event_by post.actor (Claim worker work.rec) ∷ []) t.found))
          (feeds-damage s (is_input work.rec) t.found so.inputs work.inputs.items damage
          (each-read (without_tickets t.found) work.rec (Some (kind.Job work.rec work.core so.prio so.inputs so.outputs)) so.inputs (sym so.job) (each-there so.inputs))
          so.fed among);
    }
