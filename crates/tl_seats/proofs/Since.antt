-- What a turn is since the actor's last one.
use Rattle.std.proofs.Common.{◌≡◌, ◌≢◌, ◌⊎◌, inl, inr, ℕ, Bool, true, false, List, ◌∷◌, ◌++◌, Option, Some, None, Result, Ok, Err, IfErr, IfOk, MatchResult, OnErr, OnOk, refl, ap, ◌∙◌, subst}
use Rattle.tl_types.specs.Block.{FileOutcome}
use Rattle.tl_types.specs.declared.actor.Actor.{Actor}
use Rattle.tl_types.specs.declared.file_id.FileId.{FileId}
use Rattle.tl_types.specs.declared.worker_id.WorkerId.{WorkerId}
use Rattle.tl_model.specs.declared.command.Command.{Command}
use Rattle.tl_model.specs.declared.reply.Reply.{Reply}
use Rattle.tl_model.specs.declared.event.Act.{Act}
use Rattle.tl_model.specs.declared.event.Event.{Event}
use Rattle.tl_model.specs.declared.header.Header.{Header}
use Rattle.tl_cluster.specs.declared.look.Look.{Look}
use Rattle.tl_cluster.specs.declared.look.Look.TheVariants as look
use Rattle.tl_cluster.specs.declared.saving.SaveJob.{SaveJob}
use Rattle.tl_cluster.specs.declared.work.Finish.{Finish}
use Rattle.tl_cluster.specs.declared.work.Finish.TheVariants as finish
use Rattle.tl_cluster.specs.declared.work.Work.{Work}
use Rattle.tl_cluster.specs.Called.{Called}
use Rattle.tl_cluster.specs.Losses.{incarnation}
use Rattle.tl_cluster.specs.State.{State}
use Rattle.tl_cluster.specs.Turned.{Turned}
use Rattle.tl_cluster.specs.Works.{Finished}
use Rattle.tl_desk.specs.Finds.{Finds, Post, Stays, Turns, is_any}
use Rattle.tl_desk.specs.Turns.{Begins, Calls, Claims, Collects, Finishes, Looks, Serves, with_act}
use Rattle.tl_desk.proofs.Owning.{stays, turns}
use Rattle.tl_seats.proofs.Adding.{same-or-not}

finds-on : {T : Type 0} (actor : Actor) (seen between found : List (Event T)) → Finds false actor seen between → Finds true actor between found →
    Finds false actor seen found
finds-on {T} actor seen between found f g = record {
  others = f.others;
  came = g.came ∙ ap (λ (os : List (Event T)). os ++ between) (g.alone refl) ∙ f.came;
  theirs = f.theirs;
  alone = λ whole. absurd (cc);
}

pub stays-since : {T : Type 0} (actor : Actor) (seen found new : List (Event T)) (is_so : List (Event T) → Type 0) → Finds false actor seen found →
    Stays true actor found new is_so → Stays false actor seen new is_so
stays-since actor seen found new is_so f s = record { finds = finds-on actor seen found new f s.finds; so = s.so }

pub turns-since : {T : Type 0} (actor : Actor) (seen found new : List (Event T)) (is_so : List (Event T) → Type 0) (main : List (Event T) → List (Event T)) →
    Finds false actor seen found → Turns true actor found new is_so main → Turns false actor seen new is_so main
turns-since actor seen found new is_so main f t =
    record { found = t.found; finds = finds-on actor seen found t.found f t.finds; so = t.so; turned = t.turned }

-- a turn of which nothing more is said
pub any-turn : {T : Type 0} (actor : Actor) (seen : List (Event T)) (old new : State T) (main : List (Event T) → List (Event T)) (blocks : FileId → Option FileOutcome) →
    Finds false actor seen old.events → Turned actor old (main old.events) blocks new → Turns false actor seen new.events is_any main
any-turn actor seen old new main blocks f t =
    turns-since actor seen old.events new.events is_any main f (turns actor old new is_any main blocks t tt)

-- an error does nothing
pub err-stays : {T A E : Type 0} (actor : Actor) (seen : List (Event T)) (old new : State T) (r : Result A E) → Finds false actor seen old.events →
    OnErr r (new ≡ old) → OnErr r (Stays false actor seen new.events is_any)
err-stays actor seen old new (Ok a) f h = h
err-stays actor seen old new (Err e) f h = stays-since actor seen old.events new.events is_any f (stays actor old new is_any h tt)

pub on-ok : {A E P Q : Type 0} (r : Result A E) → (P → Q) → OnOk r P → OnOk r Q
on-ok (Ok a) g h = g h
on-ok (Err e) g h = h

pub call-since : {T : Type 0} (actor : Actor) (command : Command T) (seen : List (Event T)) (old new : State T) (answer : ℕ × Reply) → Finds false actor seen old.events →
    Called old new actor command answer → Calls false actor command seen new.events answer
call-since actor command seen old new answer f c =
    turns-since actor seen old.events new.events _ _ f (turns actor old new _ _ _ c.2 (c.0, c.1))

pub looks-since : {T : Type 0} (tells : Bool) (content : T → List ℕ) (actor : Actor) (file : FileId) (seen found new : List (Event T)) (answer : Look T) →
    Finds false actor seen found → Looks true tells content actor file found new answer → Looks false tells content actor file seen new answer
looks-since tells content actor file seen found new (look.Have block) f l = (l.0, l.1, turns-since actor seen found new _ _ f l.2)
looks-since tells content actor file seen found new (look.Saved saved) f l = stays-since actor seen found new _ f l
looks-since tells content actor file seen found new look.NotYet f l = stays-since actor seen found new _ f l

pub serves-since : {T : Type 0} (tells : Bool) (content : T → List ℕ) (actor : Actor) (worker : WorkerId) (block : FileOutcome) (seen found new : List (Event T))
    (answer : FileOutcome) → Finds false actor seen found → Serves true tells content actor worker block found new answer →
    Serves false tells content actor worker block seen new answer
serves-since tells content actor worker block seen found new answer f (inl l) = inl (l.0, l.1, turns-since actor seen found new _ _ f l.2)
serves-since tells content actor worker block seen found new answer f (inr l) = inr (l.0, (l.1.0, l.1.1, turns-since actor seen found new _ _ f l.1.2))

claims-on : {T : Type 0} (tells : Bool) (content : T → List ℕ) (post : Post) (worker : WorkerId) (seen found new : List (Event T)) (work : Option (Work T)) →
    Finds false post.actor seen found → Claims true tells content post worker found new work → Claims false tells content post worker seen new work
claims-on tells content post worker seen found new None f c = stays-since post.actor seen found new _ f c
claims-on tells content post worker seen found new (Some work) f c = turns-since post.actor seen found new _ _ f c

pub claims-since : {T : Type 0} (tells : Bool) (content : T → List ℕ) (actor : Actor) (old header : Header) (worker : WorkerId) (seen found new : List (Event T))
    (work : Option (Work T)) → old ≡ header → Finds false actor seen found →
    Claims true tells content (record { actor = actor; header = old }) worker found new work →
    Claims false tells content (record { actor = actor; header = header }) worker seen new work
claims-since tells content actor old header worker seen found new work same f c =
    subst (λ (h : Header). Claims false tells content (record { actor = actor; header = h }) worker seen new work) same
    (claims-on tells content (record { actor = actor; header = old }) worker seen found new work f c)

begins-on : {T : Type 0} (tells : Bool) (content : T → List ℕ) (post : Post) (seen found new : List (Event T)) (job : Option SaveJob) →
    Finds false post.actor seen found → Begins true tells content post found new job → Begins false tells content post seen new job
begins-on tells content post seen found new None f b = stays-since post.actor seen found new _ f b
begins-on tells content post seen found new (Some job) f b = (b.0, turns-since post.actor seen found new _ _ f b.1)

pub begins-since : {T : Type 0} (tells : Bool) (content : T → List ℕ) (actor : Actor) (old header : Header) (seen found new : List (Event T))
    (job : Option SaveJob) → old ≡ header → Finds false actor seen found →
    Begins true tells content (record { actor = actor; header = old }) found new job →
    Begins false tells content (record { actor = actor; header = header }) seen new job
begins-since tells content actor old header seen found new job same f b =
    subst (λ (h : Header). Begins false tells content (record { actor = actor; header = h }) seen new job) same
    (begins-on tells content (record { actor = actor; header = old }) seen found new job f b)

pub collects-since : {T : Type 0} (actor : Actor) (n k : ℕ) (seen found new : List (Event T)) → Finds false actor seen found →
    Collects true actor n found new k → Collects false actor n seen new k
collects-since actor n k seen found new f c =
    record { found = c.found; finds = finds-on actor seen found c.found f c.finds; most = c.most; let_go = c.let_go; none_left = c.none_left }

-- ---- the end of a job

pub finishes-since : {T : Type 0} (work : Work T) (blocks : List FileOutcome) (seen : List (Event T)) (old new : State T) (ended : Finish) →
    Finds false work.actor seen old.events → Finished old new work blocks ended → Finishes false work seen new.events ended
finishes-since work blocks seen old new finish.Installed f d =
    turns-since work.actor seen old.events new.events _ _ f (turns work.actor old new _ _ _ d.1 d.0)
finishes-since work blocks seen old new (finish.Void at_claim now) f d =
    (d.0, stays-since work.actor seen old.events new.events _ f (stays work.actor old new _ d.3 (d.1, d.2)))

pub gives-since : {T : Type 0} (work : Work T) (act : Act T) (seen : List (Event T)) (old new : State T) (blocks : FileId → Option FileOutcome) →
    Finds false work.actor seen old.events →
    (incarnation old.events work.worker ≡ work.incarnation → Turned work.actor old (record { actor = work.actor; act = act } ∷ old.events) blocks new) →
    (incarnation old.events work.worker ≢ work.incarnation → new ≡ old) →
    Turns false work.actor seen new.events (λ found. incarnation found work.worker ≡ work.incarnation) (with_act work.actor act)
    ⊎ Stays false work.actor seen new.events (λ found. incarnation found work.worker ≢ work.incarnation)
gives-since work act seen old new blocks f stands lost =
    elim (same-or-not (incarnation old.events work.worker) work.incarnation) [
      | inl same ↦ inl (turns-since work.actor seen old.events new.events _ _ f (turns work.actor old new _ _ _ (stands same) same))
      | inr other ↦ inr (stays-since work.actor seen old.events new.events _ f (stays work.actor old new _ (lost other) other))
    ]

-- ---- of each way that a call can end

pub match-ok : {A E : Type 0} (r : Result A E) (P Q : A → Type 0) (S : E → Type 0) → ((a : A) → P a → Q a) → MatchResult r P S → IfOk r Q
match-ok (Ok a) P Q S g h = g a h
match-ok (Err e) P Q S g h = tt

pub match-err : {A E Q : Type 0} (r : Result A E) (P : A → Type 0) (S : E → Type 0) → ((e : E) → S e → Q) → MatchResult r P S → OnErr r Q
match-err (Ok a) P S g h = tt
match-err (Err e) P S g h = g e h

pub match-if-err : {A E : Type 0} (r : Result A E) (P : A → Type 0) (S Q : E → Type 0) → ((e : E) → S e → Q e) → MatchResult r P S → IfErr r Q
match-if-err (Ok a) P S Q g h = tt
match-if-err (Err e) P S Q g h = g e h

pub match-way : {A E B : Type 0} (r : Result A E) (P : A → Type 0) (S : E → Type 0) → ((a : A) → P a → B) → ((e : E) → S e → B) → MatchResult r P S → B
match-way (Ok a) P S g k h = g a h
match-way (Err e) P S g k h = k e h

pub on-way : {A E P Q B : Type 0} (r : Result A E) → OnOk r P → OnErr r Q → (P → B) → (Q → B) → B
on-way (Ok a) ok err g k = g ok
on-way (Err e) ok err g k = k err
