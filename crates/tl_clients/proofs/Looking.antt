-- One look for the file of an open read.
use Rattle.std.proofs.Common.{◌≡◌, inl, inr, ℕ, Bool, true, false, ◌||◌, not, List, [], ◌∷◌, ◌++◌, map, Option, Some, None, is_none, if◌then◌else◌, refl, sym, ap, ◌∙◌, subst}
use Rattle.std.specs.List.{list_all}
use Rattle.std.proofs.lemmas.Bool.{and_from, and_parts}
use Rattle.sha2.specs.Sha256.{sha256}
use Rattle.tl_types.specs.Block.{FileOutcome}
use Rattle.tl_types.specs.Same.{file_same-Decides}
use Rattle.tl_types.specs.declared.actor.Actor.{Actor}
use Rattle.tl_types.specs.declared.digest.Digest.{Digest}
use Rattle.tl_types.specs.declared.file_id.FileId.{FileId}
use Rattle.tl_types.specs.declared.outcome.Outcome.{Outcome}
use Rattle.tl_types.specs.declared.outcome.Outcome.TheVariants.{Value, Fault}
use Rattle.tl_types.specs.declared.worker_id.WorkerId.{WorkerId}
use Rattle.tl_model.specs.declared.event.Act.TheVariants.{Load, Served}
use Rattle.tl_model.specs.declared.event.Event.{Event}
use Rattle.tl_model.specs.declared.saved.Saved.{Saved}
use Rattle.tl_model.specs.declared.saved.Saved.TheVariants.{Held, Failed}
use Rattle.tl_model.specs.Actors.{open_claim, open_read, open_save}
use Rattle.tl_model.specs.Past.{Past, events_with, without_tickets}
use Rattle.tl_model.specs.Residency.{SavedAs, is_available, is_resident, is_saved}
use Rattle.tl_model.specs.Rules.{may_claim}
use Rattle.tl_model.specs.Values.{value}
use Rattle.tl_cluster.specs.Kept.{IsSavedFor}
use Rattle.tl_cluster.specs.Looks.{IsSavedOf}
use Rattle.tl_cluster.specs.Saves.{saved_block}
use Rattle.tl_desk.specs.Finds.{Finds}
use Rattle.tl_cluster.specs.declared.look.Look.{Look}
use Rattle.tl_cluster.specs.declared.look.Look.TheVariants as look
use Rattle.tl_desk.specs.Turns.{IsSavedBlock, Looks, Serves, ServesHeld, ServesLoaded}
use Rattle.tl_pieces.specs.Setting.{Setting, Events, event_by}
use Rattle.tl_pieces.specs.Own.{Adds}
use Rattle.tl_pieces.specs.Reading.{IsServed, is_missing, load_of, served_of}
use Rattle.tl_pieces.proofs.Others.{claim-stays, read-stays, save-stays}
use Rattle.tl_pieces.proofs.Adding.{added-then}
use Rattle.tl_pieces.proofs.Pieced.{is-served-adds}
use Rattle.tl_work.specs.declared.error.WorkError.{WorkError}
use Rattle.tl_work.specs.declared.error.WorkError.TheVariants.{StoreFault, Damaged, NoMemory}
use Rattle.tl_work.specs.Loads.{IsDamageOf, IsLoadOf, IsLoadable, WhereDamaged}
use Rattle.tl_work.proofs.Finding.{drops-add, found-adds, same-actor}
use Rattle.tl_work.proofs.Open.{closed-left, has-idle, leaves_claim, leaves_save, saves-left}
use Rattle.tl_work.proofs.TakingUp.{can-be-loaded, damage-of}
use Rattle.tl_clients.specs.Waits.{IsIdle, IsWaiting, LookFails, LooksOnce, WhyLookFails, is_file}

-- ---- what stays open

none-of : {A : Type 0} (x : Option A) → is_none x ≡ true → x ≡ None
none-of None h = refl
none-of (Some x) h = absurd (cc)

pub free-claim : (past : Past) (actor : Actor) → may_claim past actor ≡ true → open_claim past actor ≡ None
free-claim past actor h = none-of _ (and_parts (is_none (open_claim past actor)) (is_none (open_save past actor)) h).0

pub free-save : (past : Past) (actor : Actor) → may_claim past actor ≡ true → open_save past actor ≡ None
free-save past actor h = none-of _ (and_parts (is_none (open_claim past actor)) (is_none (open_save past actor)) h).1

pub free-from : (past : Past) (actor : Actor) → open_claim past actor ≡ None → open_save past actor ≡ None → may_claim past actor ≡ true
free-from past actor claim save = and_from (is_none (open_claim past actor)) (is_none (open_save past actor)) (ap is_none claim) (ap is_none save)

pub waiting-stays : {T : Type 0} (s : Setting T) (f : FileId) (before after : Events T) → IsWaiting s f before → Adds s [] before after → IsWaiting s f after
waiting-stays s f before after w a = record {
  reading = (w.reading.0, read-stays s before after a ∙ w.reading.1, w.reading.2);
  free = free-from (without_tickets after) s.actor
      (claim-stays s before after a (free-claim (without_tickets before) s.actor w.free))
      (save-stays s before after a ∙ free-save (without_tickets before) s.actor w.free);
}

-- ---- a served read

loads-leave-claim : (T : Type 0) (actor : Actor) (worker : WorkerId) (f : FileId) (digest : Digest) (b : Bool) →
    list_all (λ (e : Event T). leaves_claim e.act) (map (event_by actor) (Served f digest ∷ (if b then [] else Load worker f ∷ []))) ≡ true
loads-leave-claim T actor worker f digest true = refl
loads-leave-claim T actor worker f digest false = refl

loads-leave-save : (T : Type 0) (actor : Actor) (worker : WorkerId) (f : FileId) (digest : Digest) (b : Bool) →
    list_all (λ (e : Event T). leaves_save e.act) (map (event_by actor) (Served f digest ∷ (if b then [] else Load worker f ∷ []))) ≡ true
loads-leave-save T actor worker f digest true = refl
loads-leave-save T actor worker f digest false = refl

-- after it its actor has nothing open
pub served-idle : {T : Type 0} (s : Setting T) (f : FileId) (block : FileOutcome) (before after : Events T) → IsWaiting s f before → IsServed s block before after → IsIdle s after
served-idle {T} s f block before after w r =
    let adds = is-served-adds s block before after r in
    let there = is_resident (without_tickets r.found_at) block.file in
    let main : Events T = served_of s block.file r.digest r.found_at ++ r.found_at in
    has-idle (without_tickets after) s.actor
    (read-stays s main after r.served
    ∙ ap (λ b. if b then None else open_read (without_tickets (map (event_by s.actor) (load_of (without_tickets r.found_at) s.worker block.file) ++ r.found_at)) s.actor) (same-actor s.actor))
    (closed-left s _ before after (loads-leave-claim T s.actor s.worker block.file r.digest there) adds (free-claim (without_tickets before) s.actor w.free))
    (saves-left s _ before after (loads-leave-save T s.actor s.worker block.file r.digest there) adds ∙ free-save (without_tickets before) s.actor w.free)

true-left : (a b : Bool) → a ≡ true → (a || b) ≡ true
true-left true b h = refl
true-left false b h = absurd (cc)

-- by a block that a memory had
pub held-served : {T : Type 0} (s : Setting T) (f : FileId) (seen new : Events T) (block : FileOutcome) →
    ServesHeld s.whole s.tells s.content s.actor f seen new block → (block.file ≡ f) × IsServed s block seen new
held-served {T} s f seen new block h =
    let t = h.2 in
    let same : block.file ≡ f = t.so.1.0 in
    let resident : is_resident (without_tickets t.found) block.file ≡ true = ap (is_resident (without_tickets t.found)) same ∙ t.so.0 in (
      same,
      record {
        found_at = t.found;
        digest = h.0;
        found = found-adds s seen t.found t.finds;
        there = true-left (is_resident (without_tickets t.found) block.file) (is_saved (without_tickets t.found) block.file) resident;
        served = subst (λ b. Adds s [] (map (event_by s.actor) (Served block.file h.0 ∷ (if b then [] else Load s.worker block.file ∷ [])) ++ t.found) new) (sym resident)
            (drops-add s (event_by s.actor (Served block.file h.0) ∷ t.found) new t.turned);
        of_block = h.1;
        told = λ tells. t.so.1.1 tells ∙ ap (value (events_with s.content t.found)) (sym same);
      },
    )

-- by a block that was loaded
loaded-served : {T : Type 0} (s : Setting T) (seen new : Events T) (block : FileOutcome) →
    ServesLoaded s.whole s.tells s.content s.actor s.worker seen new block → IsServed s block seen new
loaded-served {T} s seen new block h =
    let t = h.2 in
    record {
      found_at = t.found;
      digest = h.0;
      found = found-adds s seen t.found t.finds;
      there = t.so.1;
      served = subst (λ b. Adds s [] (map (event_by s.actor) (Served block.file h.0 ∷ (if b then [] else Load s.worker block.file ∷ [])) ++ t.found) new) (sym t.so.0)
          (drops-add s (event_by s.actor (Served block.file h.0) ∷ event_by s.actor (Load s.worker block.file) ∷ t.found) new t.turned);
      of_block = h.1;
      told = t.so.2.1;
    }

pub serves-served : {T : Type 0} (s : Setting T) (seen new : Events T) (block answer : FileOutcome) →
    Serves s.whole s.tells s.content s.actor s.worker block seen new answer → (answer.file ≡ block.file) × IsServed s answer seen new
serves-served s seen new block answer (inl h) = held-served s block.file seen new answer h
serves-served {T} s seen new block answer (inr h) =
    (ap (λ (b : FileOutcome). b.file) h.0, subst (λ (b : FileOutcome). IsServed s b seen new) (sym h.0) (loaded-served s seen new block h.1))

pub looked-once : {T : Type 0} (s : Setting T) (f : FileId) (seen new : Events T) (block : FileOutcome) → IsWaiting s f seen → (block.file ≡ f) × IsServed s block seen new →
    LooksOnce s f seen new (Some block)
looked-once s f seen new block w h = (h.0, h.1, served-idle s f block seen new w h.1)

-- the look came first, and others' events
pub served-then : {T : Type 0} (s : Setting T) (block : FileOutcome) (before between after : Events T) → Adds s [] before between → IsServed s block between after → IsServed s block before after
served-then s block before between after a r = record {
  found_at = r.found_at;
  digest = r.digest;
  found = added-then s [] before between r.found_at a r.found;
  there = r.there;
  served = r.served;
  of_block = r.of_block;
  told = r.told;
}

-- ---- what was loaded

not-true : (b : Bool) → b ≡ false → not b ≡ true
not-true b h = ap not h

pub missing-is : (past : Past) (f : FileId) → is_available past f ≡ false → is_missing f past ≡ true
missing-is past f h = not-true (is_available past f) h

digest-is : (d : Digest) (bytes : List ℕ) → bytes ≡ d.0 → record { 0 = bytes } ≡ d
digest-is d bytes e = λ i. record { 0 = e i }

loaded-as : {T : Type 0} (tells : Bool) (content : T → List ℕ) (known : SavedAs) (truth : Outcome) (saved : Saved T) (f : FileId) (outcome : Outcome) →
    IsSavedFor tells content known truth saved → IsLoadOf tells content saved outcome → known ≡ saved_block (record { file = f; outcome = outcome })
loaded-as tells content known truth (Held ticket len digest) f (Value bytes) h l =
    h.0 ∙ (λ i. record { size = sym l.0.of_len i; digest = sym (digest-is digest (sha256 bytes) l.0.of_digest) i })
loaded-as tells content known truth (Held ticket len digest) f (Fault code) h l = absurd l
loaded-as {T} tells content known truth (Failed code) f outcome h l =
    h.0 ∙ ap (λ o. saved_block (record { file = f; outcome = o })) (sym l)

loaded-value : {T : Type 0} (tells : Bool) (content : T → List ℕ) (known : SavedAs) (truth : Outcome) (saved : Saved T) (outcome : Outcome) →
    IsSavedFor tells content known truth saved → IsLoadOf tells content saved outcome → tells ≡ true → outcome ≡ truth
loaded-value tells content known truth (Held ticket len digest) (Value bytes) h l told =
    ap Value (l.1 told) ∙ sym (h.2 told).0
loaded-value tells content known truth (Held ticket len digest) (Fault code) h l told = absurd l
loaded-value tells content known truth (Failed code) outcome h l told = l ∙ sym (h.1 told)

-- the block that was loaded is one of the file, as it was saved
pub is-saved-block : {T : Type 0} (tells : Bool) (content : T → List ℕ) (events : Events T) (f : FileId) (saved : Saved T) (outcome : Outcome) →
    IsSavedOf tells content events f saved → IsLoadOf tells content saved outcome → IsSavedBlock events (record { file = f; outcome = outcome })
is-saved-block tells content events f saved outcome h l =
    h.1 ∙ ap Some (loaded-as tells content h.0 (value (events_with content events) f) saved f outcome h.2 l)

pub is-saved-value : {T : Type 0} (tells : Bool) (content : T → List ℕ) (events : Events T) (f : FileId) (saved : Saved T) (outcome : Outcome) →
    IsSavedOf tells content events f saved → IsLoadOf tells content saved outcome → tells ≡ true → outcome ≡ value (events_with content events) f
is-saved-value tells content events f saved outcome h l told =
    loaded-value tells content h.0 (value (events_with content events) f) saved outcome h.2 l told

pub is-loadable : {T : Type 0} (tells : Bool) (content : T → List ℕ) (events : Events T) (f : FileId) (saved : Saved T) → IsSavedOf tells content events f saved → IsLoadable saved
is-loadable tells content events f saved h = can-be-loaded tells content h.0 (value (events_with content events) f) saved h.2

pub why-fails : {T : Type 0} (s : Setting T) (f : FileId) (events : Events T) (saved : Saved T) (error : WorkError) → IsSavedOf s.tells s.content events f saved →
    WhereDamaged (IsDamageOf s.tells s.content saved) error → WhyLookFails s f events error
why-fails s f events saved StoreFault h d = tt
why-fails s f events saved (Damaged damage) h d = damage-of s (is_file f) events f saved damage ((file_same-Decides f f).1 refl) h d
why-fails s f events saved NoMemory h d = tt

pub look-fails : {T : Type 0} (s : Setting T) (f : FileId) (before after : Events T) (error : WorkError) → IsWaiting s f before → Adds s [] before after → WhyLookFails s f after error →
    LookFails s f before after error
look-fails s f before after error w a why = record { came = a; waiting = waiting-stays s f before after w a; why = why }

-- ---- what a look answered

abbrev pub SavedThere : {T : Type 0} → Setting T → FileId → Events T → Events T → Saved T → Type 0
SavedThere s f seen mid saved = Finds s.whole s.actor seen mid × IsSavedOf s.tells s.content mid f saved

pub saved-there : {T : Type 0} (s : Setting T) (f : FileId) (seen mid : Events T) (answer : Look T) (saved : Saved T) → answer ≡ look.Saved saved →
    Looks s.whole s.tells s.content s.actor f seen mid answer → SavedThere s f seen mid saved
saved-there {T} s f seen mid answer saved is l =
    let stays : Looks s.whole s.tells s.content s.actor f seen mid (look.Saved saved) = subst (λ (a : Look T). Looks s.whole s.tells s.content s.actor f seen mid a) is l in
    (stays.finds, stays.so.1)

pub have-there : {T : Type 0} (s : Setting T) (f : FileId) (seen mid : Events T) (answer : Look T) (block : FileOutcome) → answer ≡ look.Have block →
    Looks s.whole s.tells s.content s.actor f seen mid answer → (block.file ≡ f) × IsServed s block seen mid
have-there {T} s f seen mid answer block is l =
    held-served s f seen mid block (subst (λ (a : Look T). Looks s.whole s.tells s.content s.actor f seen mid a) is l)

pub none-there : {T : Type 0} (s : Setting T) (f : FileId) (seen mid : Events T) (answer : Look T) → answer ≡ look.NotYet →
    Looks s.whole s.tells s.content s.actor f seen mid answer → Finds s.whole s.actor seen mid × (is_missing f (without_tickets mid) ≡ true)
none-there {T} s f seen mid answer is l =
    let stays : Looks s.whole s.tells s.content s.actor f seen mid look.NotYet = subst (λ (a : Look T). Looks s.whole s.tells s.content s.actor f seen mid a) is l in
    (stays.finds, missing-is (without_tickets mid) f stays.so)

pub looked-none : {T : Type 0} (s : Setting T) (f : FileId) (seen mid : Events T) → IsWaiting s f seen → Finds s.whole s.actor seen mid × (is_missing f (without_tickets mid) ≡ true) →
    LooksOnce s f seen mid None
looked-none s f seen mid w h = let a = found-adds s seen mid h.0 in (a, h.1, waiting-stays s f seen mid w a)

-- others' events came before
pub looked-then : {T : Type 0} (s : Setting T) (f : FileId) (before between after : Events T) (block : FileOutcome) → Adds s [] before between → LooksOnce s f between after (Some block) →
    LooksOnce s f before after (Some block)
looked-then s f before between after block a l = (l.0, served-then s block before between after a l.1, l.2)

pub fails-then : {T : Type 0} (s : Setting T) (f : FileId) (before between after : Events T) (error : WorkError) → Adds s [] before between → LookFails s f between after error →
    LookFails s f before after error
fails-then s f before between after error a l = record { came = added-then s [] before between after a l.came; waiting = l.waiting; why = l.why }
