-- Whoever has the whole cluster finds what was seen.
use Rattle.std.proofs.Common.{◌≡◌, ◌⊎◌, inl, inr, ℕ, zero, suc, Bool, true, false, ◌||◌, List, [], ◌∷◌, Option, Some, None, is_some, Result, Ok, Err, IfOk, OnErr, refl, sym, ap, ◌∙◌, subst}
use Rattle.tl_types.specs.Block.{FileOutcome}
use Rattle.tl_types.specs.declared.actor.Actor.{Actor}
use Rattle.tl_types.specs.declared.file_id.FileId.{FileId}
use Rattle.tl_types.specs.declared.worker_id.WorkerId.{WorkerId}
use Rattle.tl_model.specs.declared.event.Event.{Event}
use Rattle.tl_model.specs.Past.{Past}
use Rattle.tl_model.specs.Residency.{SavedAs, is_available, is_resident, is_saved, saved_as}
use Rattle.tl_cluster.specs.Saves.{saved_block}
use Rattle.tl_model.specs.Values.{value}
use Rattle.tl_cluster.specs.declared.look.Look.{Look}
use Rattle.tl_cluster.specs.declared.look.Look.TheVariants as look
use Rattle.tl_cluster.specs.declared.saving.SaveJob.{SaveJob}
use Rattle.tl_cluster.specs.declared.work.Feed.{Feed}
use Rattle.tl_cluster.specs.declared.work.Feed.TheVariants.{Have, Kept}
use Rattle.tl_cluster.specs.declared.work.Work.{Work}
use Rattle.tl_cluster.specs.Collected.{Collected, LetGo}
use Rattle.tl_cluster.specs.Looks.{Loaded, Looked}
use Rattle.tl_cluster.specs.Saves.{Begun}
use Rattle.tl_cluster.specs.State.{State, held, past_of, told_of}
use Rattle.tl_cluster.specs.Turned.{Turned}
use Rattle.tl_cluster.specs.Works.{Claimed}
use Rattle.tl_cluster.specs.Works as works
use Rattle.tl_desk.specs.Finds.{Finds, Stays, Turns}
use Rattle.tl_desk.specs.Turns.{AreFed, Begins, Claims, Collects, IsBlockOf, IsSavedBlock, LetsGo, Looks, Serves}

pub found-as-seen : {T : Type 0} (actor : Actor) (seen : List (Event T)) → Finds true actor seen seen
found-as-seen actor seen = record { others = []; came = refl; theirs = tt; alone = λ _. refl }

pub turns : {T : Type 0} (actor : Actor) (old new : State T) (is_so : List (Event T) → Type 0)
    (main : List (Event T) → List (Event T)) (blocks : FileId → Option FileOutcome) →
    Turned actor old (main old.events) blocks new → is_so old.events →
    Turns true actor old.events new.events is_so main
turns actor old new is_so main blocks t so = record {
  found = old.events;
  finds = found-as-seen actor old.events;
  so = so;
  turned = (t.drops, t.events);
}

pub stays : {T : Type 0} (actor : Actor) (old new : State T) (is_so : List (Event T) → Type 0) →
    new ≡ old → is_so old.events → Stays true actor old.events new.events is_so
stays {T} actor old new is_so same so =
    subst (λ (s : State T). Stays true actor old.events s.events is_so) (sym same)
    (record { finds = found-as-seen actor old.events; so = so })

-- what a cluster knows of the blocks that it holds
pub record Holds {T : Type 0} (tells : Bool) (content : T → List ℕ) (state : State T) : Type 0 where
  pub resident : (f : FileId) → is_some (held f state.workers) ≡ is_resident (past_of state) f
  pub file : (f : FileId) (block : FileOutcome) → held f state.workers ≡ Some block → block.file ≡ f
  pub values : (f : FileId) (block : FileOutcome) → held f state.workers ≡ Some block →
      tells ≡ true → block.outcome ≡ value (told_of content state) f

held-is-resident : {T : Type 0} (tells : Bool) (content : T → List ℕ) (state : State T) →
    Holds tells content state → (f : FileId) (block : FileOutcome) →
    held f state.workers ≡ Some block → is_resident (past_of state) f ≡ true
held-is-resident tells content state h f block is = sym (h.resident f) ∙ ap is_some is

block-of : {T : Type 0} (tells : Bool) (content : T → List ℕ) (state : State T) →
    Holds tells content state → (f : FileId) (block : FileOutcome) →
    held f state.workers ≡ Some block → IsBlockOf tells content state.events f block
block-of tells content state h f block is = (h.file f block is, h.values f block is)

pub looks : {T : Type 0} (tells : Bool) (content : T → List ℕ) (old new : State T) (actor : Actor)
    (f : FileId) (found : Look T) → Holds tells content old →
    Looked tells content old new actor f found →
    Looks true tells content actor f old.events new.events found
looks tells content old new actor f (look.Have block) h l = (
  l.2.0,
  l.2.1,
  turns actor old new _ _ _ l.2.2
      (held-is-resident tells content old h f block l.0, block-of tells content old h f block l.0),
)
looks tells content old new actor f (look.Saved saved) h l = stays actor old new _ l.2 (l.0, l.1)
looks tells content old new actor f look.NotYet h l = stays actor old new _ l.1 l.0

pub look-header : {T : Type 0} (tells : Bool) (content : T → List ℕ) (old new : State T) (actor : Actor)
    (f : FileId) (found : Look T) → Looked tells content old new actor f found →
    new.header ≡ old.header
look-header tells content old new actor f (look.Have block) l = l.2.2.header
look-header {T} tells content old new actor f (look.Saved saved) l = ap (λ (s : State T). s.header) l.2
look-header {T} tells content old new actor f look.NotYet l = ap (λ (s : State T). s.header) l.1

-- ---- a loaded block

is-so-or-not : (b : Bool) → (b ≡ true) ⊎ (b ≡ false)
is-so-or-not true = inl refl
is-so-or-not false = inr refl

true-right : (a b : Bool) → b ≡ true → (a || b) ≡ true
true-right true b h = refl
true-right false b h = h

saved-available : (past : Past) (f : FileId) (known : SavedAs) → saved_as past f ≡ Some known →
    is_available past f ≡ true
saved-available past f known h = true-right (is_resident past f) (is_saved past f) (ap is_some h)

pub serves : {T : Type 0} (tells : Bool) (content : T → List ℕ) (old new : State T)
    (actor : Actor) (worker : WorkerId) (block answer : FileOutcome) → Holds tells content old →
    IsSavedBlock old.events block →
    (tells ≡ true → block.outcome ≡ value (told_of content old) block.file) →
    Loaded old new actor worker block answer →
    Serves true tells content actor worker block old.events new.events answer
serves tells content old new actor worker block answer h saved told l =
    elim (is-so-or-not (is_resident (past_of old) block.file)) [
      | inl there ↦ let s = l.0 there in inl (
        s.1.0,
        s.1.1,
        turns actor old new _ _ _ s.1.2 (there, block-of tells content old h block.file answer s.0),
      )
      | inr gone ↦ let s = l.1 gone in inr (
        s.0,
        (
          s.1.0,
          s.1.1,
          turns actor old new _ _ _ s.1.2
              (gone, saved-available (past_of old) block.file (saved_block block) saved, (refl, told)),
        ),
      )
    ]

pub load-header : {T : Type 0} (old new : State T) (actor : Actor) (worker : WorkerId)
    (block answer : FileOutcome) → Loaded old new actor worker block answer → new.header ≡ old.header
load-header old new actor worker block answer l =
    elim (is-so-or-not (is_resident (past_of old) block.file)) [
      | inl there ↦ (l.0 there).1.2.header
      | inr gone ↦ (l.1 gone).1.2.header
    ]

-- ---- a claim

are-fed : {T : Type 0} (tells : Bool) (content : T → List ℕ) (state : State T) →
    Holds tells content state → (files : List FileId) (feeds : List (Feed T)) →
    works.AreFed tells content state files feeds → AreFed tells content state.events files feeds
are-fed tells content state h [] [] fed = tt
are-fed tells content state h (f ∷ files) (Have block ∷ feeds) fed = (
  (held-is-resident tells content state h f block fed.0, block-of tells content state h f block fed.0),
  are-fed tells content state h files feeds fed.1,
)
are-fed tells content state h (f ∷ files) (Kept g saved ∷ feeds) fed =
    (fed.0, are-fed tells content state h files feeds fed.1)
are-fed tells content state h [] (feed ∷ feeds) fed = absurd fed
are-fed tells content state h (f ∷ files) [] fed = absurd fed

pub claims : {T : Type 0} (tells : Bool) (content : T → List ℕ) (old new : State T) (actor : Actor)
    (worker : WorkerId) (work : Option (Work T)) → Holds tells content old →
    Claimed tells content old new actor worker work →
    Claims true tells content (record { actor = actor; header = old.header }) worker
    old.events new.events work
claims tells content old new actor worker None h c = stays actor old new _ c.1 c.0
claims tells content old new actor worker (Some work) h c =
    let job = c.6 in
    turns actor old new _ _ _ c.1 (record {
      is_next = c.0;
      for_actor = c.2;
      on_worker = c.3;
      losses = c.4;
      at_place = c.5;
      prio = job.0;
      inputs = job.1;
      outputs = job.2;
      job = job.3;
      takes = job.4;
      makes = job.5;
      fed = are-fed tells content old h job.1 work.inputs.items job.6;
    })

-- ---- a save

pub begins : {T : Type 0} (tells : Bool) (content : T → List ℕ) (old new : State T) (actor : Actor)
    (job : Option SaveJob) → Holds tells content old → Begun old new actor job →
    Begins true tells content (record { actor = actor; header = old.header })
    old.events new.events job
begins tells content old new actor None h b = stays actor old new _ b.1 b.0
begins tells content old new actor (Some job) h b = (
  b.2,
  turns actor old new _ _ _ b.4 (b.0, b.3, block-of tells content old h job.block.file job.block b.1),
)

-- what follows of each way that a call can end
pub either-way : {A E B C : Type 0} (r : Result A E) (P : A → Type 0) →
    IfOk r P → OnErr r C → ((a : A) → P a → B) → (C → B) → B
either-way (Ok a) P ok err f g = f a ok
either-way (Err e) P ok err f g = g err

-- ---- collection

lets-go : {T : Type 0} (actor : Actor) (k : ℕ) (old new : State T) → LetGo actor k old new →
    LetsGo actor k old.events new.events
lets-go {T} actor zero old new same = ap (λ (s : State T). s.events) same
lets-go actor (suc k) old new l =
    let one = l.2 in
    (l.0.events, one.0, lets-go actor k old l.0 l.1, one.1, (one.2.drops, one.2.events))

pub collects : {T : Type 0} (actor : Actor) (n k : ℕ) (old new : State T) → Collected actor n old new k →
    Collects true actor n old.events new.events k
collects actor n k old new c = record {
  found = old.events;
  finds = found-as-seen actor old.events;
  most = c.1;
  let_go = lets-go actor k old new c.0;
  none_left = c.2;
}

pub let-go-header : {T : Type 0} (actor : Actor) (k : ℕ) (old new : State T) → LetGo actor k old new →
    new.header ≡ old.header
let-go-header {T} actor zero old new same = ap (λ (s : State T). s.header) same
let-go-header actor (suc k) old new l = l.2.2.header ∙ let-go-header actor k old l.0 l.1
