-- Drops of an actor add nothing of its own.
use Rattle.std.proofs.Common.{◌≡◌, Bool, true, false, ◌&&◌, not, List, [], ◌∷◌, ◌++◌, map, cond, refl, ap, ◌∙◌}
use Rattle.std.specs.List.{list_all}
use Rattle.std.proofs.lemmas.Bool.{and_from}
use Rattle.tl_types.specs.Same.{actor_same, actor_same-Decides}
use Rattle.tl_types.specs.declared.actor.Actor.{Actor}
use Rattle.tl_types.specs.declared.file_id.FileId.{FileId}
use Rattle.tl_types.specs.declared.worker_id.WorkerId.{WorkerId}
use Rattle.tl_model.specs.declared.event.Act.{Act}
use Rattle.tl_pieces.specs.Setting.{Setting, Events, event_by}
use Rattle.tl_pieces.specs.Own.{Adds, drop_by, is_by, is_drop, own}
use Rattle.tl_pieces.proofs.Placing.{adds-one}

no-own : (b : Bool) → (b && not true) ≡ false
no-own true = refl
no-own false = refl

drops-own : (T : Type 0) (actor : Actor) (drops : List (WorkerId × FileId)) → own {T = T} actor (map (drop_by actor) drops) ≡ []
drops-own T actor [] = refl
drops-own T actor (drop ∷ drops) =
    let rest : Events T = own actor (map (drop_by actor) drops) in
    ap (λ b. cond b (drop_by actor drop ∷ rest) rest) (no-own (actor_same actor actor)) ∙ drops-own T actor drops

drops-by : (T : Type 0) (actor : Actor) (drops : List (WorkerId × FileId)) → list_all (is_by {T = T} actor) (map (drop_by actor) drops) ≡ true
drops-by T actor [] = refl
drops-by T actor (drop ∷ drops) = and_from (actor_same actor actor) (list_all (is_by {T = T} actor) (map (drop_by actor) drops)) ((actor_same-Decides actor actor).1 refl) (drops-by T actor drops)

pub drops-add : {T : Type 0} (s : Setting T) (drops : List (WorkerId × FileId)) (events : Events T) → Adds s [] events (map (drop_by s.actor) drops ++ events)
drops-add {T} s drops events = record { more = map (drop_by s.actor) drops; came = refl; own = drops-own T s.actor drops; alone = λ whole. drops-by T s.actor drops }

pub act-adds : {T : Type 0} (s : Setting T) (act : Act T) (drops : List (WorkerId × FileId)) (events : Events T) → is_drop act ≡ false →
    Adds s (event_by s.actor act ∷ []) events (map (drop_by s.actor) drops ++ event_by s.actor act ∷ events)
act-adds s act drops events kept =
    adds-one s act events (map (drop_by s.actor) drops ++ event_by s.actor act ∷ events) (ap not kept) (drops-add s drops (event_by s.actor act ∷ events))
