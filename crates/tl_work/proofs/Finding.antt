-- What a desk finds and does, as what its actor adds.
use Rattle.std.proofs.Common.{◌≡◌, Bool, true, false, ◌&&◌, not, List, [], ◌∷◌, ◌++◌, cond, refl, sym, ap, ◌∙◌, append_assoc}
use Rattle.std.specs.List.{list_all}
use Rattle.tl_types.specs.Same.{actor_same, actor_same-Decides}
use Rattle.tl_types.specs.declared.actor.Actor.{Actor}
use Rattle.tl_types.specs.declared.file_id.FileId.{FileId}
use Rattle.tl_types.specs.declared.worker_id.WorkerId.{WorkerId}
use Rattle.tl_model.specs.declared.event.Act.{Act}
use Rattle.tl_model.specs.declared.event.Act.TheVariants.{Drop}
use Rattle.tl_model.specs.declared.event.Event.{Event}
use Rattle.tl_laws.specs.Others.{AreOfOthers}
use Rattle.tl_laws_drops.specs.Drops.{DropsFollow, with_drops}
use Rattle.tl_desk.specs.Finds.{Finds, Turns}
use Rattle.tl_desk.specs.Turns.{with_act}
use Rattle.tl_pieces.specs.Setting.{Setting, Events, event_by}
use Rattle.tl_pieces.specs.Own.{Adds, is_by, is_drop, own}
use Rattle.tl_pieces.proofs.Adding.{added-on, added-then}

pub same-actor : (actor : Actor) → actor_same actor actor ≡ true
same-actor actor = (actor_same-Decides actor actor).1 refl

pub others-own : {T : Type 0} (actor : Actor) (others : Events T) → AreOfOthers actor others → own actor others ≡ []
others-own actor [] h = refl
others-own actor (e ∷ others) h =
    ap (λ b. cond (b && not (is_drop e.act)) (e ∷ own actor others) (own actor others)) h.0 ∙ others-own actor others h.1

none-all : {T : Type 0} (actor : Actor) (others : Events T) → others ≡ [] → list_all (is_by actor) others ≡ true
none-all actor others none = ap (list_all (is_by actor)) none

pub found-adds : {T : Type 0} (s : Setting T) (seen found : Events T) → Finds s.whole s.actor seen found → Adds s [] seen found
found-adds s seen found f = record {
  more = f.others;
  came = f.came;
  own = others-own s.actor f.others f.theirs;
  alone = λ whole. none-all s.actor f.others (f.alone whole);
}

drops-are : {T : Type 0} (actor : Actor) (ds : List (WorkerId × FileId)) (events : Events T) →
    with_drops actor ds events ≡ with_drops actor ds [] ++ events
drops-are actor [] events = refl
drops-are actor (d ∷ ds) events = ap (λ later. record { actor = actor; act = Drop d.0 d.1 } ∷ later) (drops-are actor ds events)

drop-own : (b : Bool) → (b && false) ≡ false
drop-own true = refl
drop-own false = refl

drops-own : (T : Type 0) (actor : Actor) (ds : List (WorkerId × FileId)) → own {T = T} actor (with_drops actor ds []) ≡ []
drops-own T actor [] = refl
drops-own T actor (d ∷ ds) =
    let rest : Events T = with_drops actor ds [] in
    let drop : Event T = record { actor = actor; act = Drop d.0 d.1 } in
    ap (λ b. cond b (drop ∷ own actor rest) (own actor rest)) (drop-own (actor_same actor actor)) ∙ drops-own T actor ds

drops-all : (T : Type 0) (actor : Actor) (ds : List (WorkerId × FileId)) → list_all (is_by {T = T} actor) (with_drops actor ds []) ≡ true
drops-all T actor [] = refl
drops-all T actor (d ∷ ds) = ap (λ b. b && list_all (is_by {T = T} actor) (with_drops actor ds [])) (same-actor actor) ∙ drops-all T actor ds

pub drops-add : {T : Type 0} (s : Setting T) (before after : Events T) → DropsFollow s.actor before after → Adds s [] before after
drops-add {T} s before after d = record {
  more = with_drops s.actor d.0 [];
  came = d.1 ∙ drops-are s.actor d.0 before;
  own = drops-own T s.actor d.0;
  alone = λ whole. drops-all T s.actor d.0;
}

pub act-adds : {T : Type 0} (s : Setting T) (act : Act T) (events : Events T) → is_drop act ≡ false →
    Adds s (event_by s.actor act ∷ []) events (event_by s.actor act ∷ events)
act-adds {T} s act events none = record {
  more = event_by s.actor act ∷ [];
  came = refl;
  own =
      let e : Event T = event_by s.actor act in
      ap (λ b. cond (b && not (is_drop act)) (e ∷ []) []) (same-actor s.actor)
      ∙ ap (λ b. cond (not b) (e ∷ []) []) none;
  alone = λ whole. ap (λ b. b && true) (same-actor s.actor);
}

-- a turn of one act adds it
pub turn-adds : {T : Type 0} (s : Setting T) (seen new : Events T) (is_so : Events T → Type 0) (act : Act T) →
    is_drop act ≡ false → Turns s.whole s.actor seen new is_so (with_act s.actor act) →
    Adds s (event_by s.actor act ∷ []) seen new
turn-adds {T} s seen new is_so act none t =
    let mine : Events T = event_by s.actor act ∷ [] in
    added-then s mine seen t.found new (found-adds s seen t.found t.finds)
    (added-on s mine t.found (event_by s.actor act ∷ t.found) new (act-adds s act t.found none)
    (drops-add s (event_by s.actor act ∷ t.found) new t.turned))

-- ---- found twice

all-both : {T : Type 0} (actor : Actor) (more others : Events T) → AreOfOthers actor more → AreOfOthers actor others → AreOfOthers actor (more ++ others)
all-both actor [] others h k = k
all-both actor (e ∷ more) others h k = (h.0, all-both actor more others h.1 k)

pub finds-twice : {T : Type 0} (whole : Bool) (actor : Actor) (seen between found : Events T) → Finds whole actor seen between → Finds whole actor between found →
    Finds whole actor seen found
finds-twice whole actor seen between found f g = record {
  others = g.others ++ f.others;
  came = g.came ∙ ap (λ es. g.others ++ es) f.came ∙ sym (append_assoc g.others f.others seen);
  theirs = all-both actor g.others f.others g.theirs f.theirs;
  alone = λ h. ap (λ es. es ++ f.others) (g.alone h) ∙ f.alone h;
}

pub found-none : {T : Type 0} (whole : Bool) (actor : Actor) (seen : Events T) → Finds whole actor seen seen
found-none whole actor seen = record { others = []; came = refl; theirs = tt; alone = λ h. refl }
