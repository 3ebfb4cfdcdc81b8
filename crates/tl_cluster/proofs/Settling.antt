-- The drops that settle the workers' memories.
use Rattle.std.proofs.Common.{◌≡◌, ℕ, ◌+◌, ◌<◌, ◌≤◌, Bool, true, false, ◌&&◌, ◌||◌, if◌then◌else◌, List, [], ◌∷◌, Option, Some, None, is_some, option_map, refl, sym, ap, ◌∙◌, subst, arith}
use Rattle.std.proofs.lemmas.Bool.{and_parts, and_from}
use Rattle.tl_types.specs.Same.{actor_same, file_same, file_same-Decides}
use Rattle.tl_types.specs.declared.actor.Actor.{Actor}
use Rattle.tl_types.specs.declared.file_id.FileId.{FileId}
use Rattle.tl_types.specs.declared.worker_id.WorkerId.{WorkerId}
use Rattle.tl_model.specs.declared.event.Act.TheVariants.{Drop}
use Rattle.tl_model.specs.declared.event.Event.{Event}
use Rattle.tl_model.specs.declared.header.Header.{Header}
use Rattle.tl_model.specs.Past.{Past, event_with, events_with, without_tickets}
use Rattle.tl_model.specs.Actors.{open_claim, open_read, open_save}
use Rattle.tl_model.specs.Eviction.{Sizes, first_to_drop, victim}
use Rattle.tl_model.specs.Residency.{is_at, is_resident_on}
use Rattle.tl_model.specs.Rules.{ToDrop, all_permitted, can_drop, is_due, is_lawful, is_quiet, last_actor_is, lawful_judge, legal_judge, owed, pays, size_of}
use Rattle.tl_laws.proofs.Permits.{actor-known, holds-one, permits}
use Rattle.tl_laws_drops.specs.Drops.{is_among}
use Rattle.tl_laws_drops.proofs.Owing.{drop-owed, victim-due, victim-found, victim-goes}
use Rattle.tl_fleet.specs.Order.{StandsInOrder, due, due_on}
use Rattle.tl_fleet.specs.Workers.{IsOnce, Workers, changed_at, dropped, found, held_count, incarnation_of, with_blocks, worker_found}
use Rattle.tl_fleet.proofs.Events.{drop_stands}
use Rattle.tl_fleet.specs.Workers as fleet
use Rattle.tl_fleet.proofs.Found.{dropped_there}
use Rattle.tl_fleet.proofs.Held.{settled_held}
use Rattle.tl_fleet.proofs.Incarnations.{changed_same}
use Rattle.tl_fleet.proofs.Places.{found_place}
use Rattle.tl_fleet.proofs.Single.{stands_once}
use Rattle.tl_store.specs.Contents.{without}
use Rattle.tl_cluster.specs.Room.{under_way}
use Rattle.tl_cluster.specs.Stands.{Agrees, PartsState, Stands}
use Rattle.tl_cluster.specs.State.{block_found, held}
use Rattle.tl_cluster.specs.Turned.{IsDrop, Settled, with_drop}
use Rattle.tl_cluster.proofs.Carry.{if-none, same_either}
use Rattle.tl_cluster.proofs.Told.{plain-told}
use Rattle.tl_cluster.proofs.Count.{nothing_ended, under_way-same}
use Rattle.tl_cluster.proofs.Owing.{nothing-owed, owed-told}

-- each file is in memory once at most
pub agrees-once : {T : Type 0} (tells : Bool) (content : T → List ℕ) (parts : PartsState T) → Agrees tells content parts → IsOnce parts.workers
agrees-once tells content parts a = stands_once a.sized.0 parts.header (without_tickets parts.events) parts.workers a.sized.1

-- what is due is the victim of the first worker that must drop
pub due-is : (sizes : Sizes) (header : Header) (past : Past) (o : Option WorkerId) (drop : WorkerId × FileId) →
    first_to_drop sizes header past ≡ o → due_on past o ≡ Some drop →
    (first_to_drop sizes header past ≡ Some drop.0) × (victim past drop.0 ≡ Some drop.1)
due-is sizes header past None drop first is = absurd (cc)
due-is sizes header past (Some worker) drop first is = on-victim (victim past worker) refl is
  where
    on-victim : (v : Option FileId) → victim past worker ≡ v → option_map (λ f. (worker, f)) v ≡ Some drop →
        (first_to_drop sizes header past ≡ Some drop.0) × (victim past drop.0 ≡ Some drop.1)
    on-victim None e is = absurd (cc)
    on-victim (Some f) e is =
        let same : (worker, f) ≡ drop = cc in (
          first ∙ ap (λ (d : WorkerId × FileId). Some d.0) same,
          ap (λ (d : WorkerId × FileId). victim past d.0) (sym same) ∙ e ∙ ap (λ (d : WorkerId × FileId). Some d.1) same,
        )

-- what may be dropped is found on its worker
pub found-there : {T : Type 0} (tells : Bool) (content : T → List ℕ) (parts : PartsState T) (drop : WorkerId × FileId) → Agrees tells content parts →
    can_drop (without_tickets parts.events) drop.0 drop.1 ≡ true → is_at drop.0 (option_map worker_found (found drop.1 parts.workers)) ≡ true
found-there tells content parts drop a can =
    ap (is_at drop.0) (found_place a.sized.0 parts.header (without_tickets parts.events) parts.workers drop.1 a.sized.1)
    ∙ (and_parts (is_resident_on (without_tickets parts.events) drop.1 drop.0) _ can).0

-- where bytes are told, a drop is owed
told-owed : {T : Type 0} (content : T → List ℕ) (header : Header) (events : List (Event T)) (actor : Actor) (worker : WorkerId) →
    is_lawful header events ≡ true → last_actor_is (without_tickets events) actor ≡ true →
    first_to_drop (size_of (events_with content events)) header (without_tickets (events_with content events)) ≡ Some worker →
    owed (legal_judge header) (events_with content events) ≡ ToDrop
told-owed content header [] actor worker lawful last is = absurd (cc)
told-owed content header (e ∷ events) actor worker lawful last is =
    drop-owed header (event_with content e) (events_with content events) worker
    (owed-told content (e ∷ events)
    ∙ nothing-owed (owed lawful_judge (e ∷ events)) (and_parts (all_permitted lawful_judge header (e ∷ events)) (is_quiet lawful_judge (e ∷ events)) lawful).1)
    is

-- a drop that is due keeps the parts in step
pub drop-agrees : {T : Type 0} (tells : Bool) (content : T → List ℕ) (parts : PartsState T) (actor : Actor) (drop : WorkerId × FileId) →
    Agrees tells content parts → actor.0 < 16 → last_actor_is (without_tickets parts.events) actor ≡ true →
    ((sizes : Sizes) → StandsInOrder sizes parts.header (without_tickets parts.events) parts.workers →
    due sizes parts.header (without_tickets parts.events) ≡ Some drop) →
    held_count (dropped (Some drop) parts.workers) + 1 ≡ held_count parts.workers →
    Agrees tells content (with_drop actor drop parts)
drop-agrees tells content parts actor drop a known last is fewer =
    let once : IsOnce parts.workers = agrees-once tells content parts a in
    let past : Past = without_tickets parts.events in
    let told = events_with content parts.events in
    let first = due-is a.sized.0 parts.header past (first_to_drop a.sized.0 parts.header past) drop refl (is a.sized.0 a.sized.1) in
    let can : can_drop past drop.0 drop.1 ≡ true = victim-goes past drop.0 drop.1 first.1 in
    let event : Event _ = record { actor = actor; act = Drop drop.0 drop.1 } in
    let lasts : (p : Past) → past ≡ p → last_actor_is p actor ≡ true = λ p e. subst (λ (q : Past). last_actor_is q actor ≡ true) e last in
    let same : under_way (record { actor = actor; act = Drop drop.0 drop.1 } ∷ past) ≡ under_way past =
    under_way-same past (record { actor = actor; act = Drop drop.0 drop.1 } ∷ past)
    (λ b. nothing_ended (actor_same b actor) (open_read past b) (open_claim past b) (open_save past b)) in
    let room : under_way past + held_count parts.workers ≤ parts.spare = a.room in
    record {
      lawful = holds-one lawful_judge parts.header parts.events event a.lawful (actor-known actor known)
          (and_from (can_drop past drop.0 drop.1) (last_actor_is past actor) can last) refl;
      permitted = λ tell.
          let told_first = due-is (size_of told) parts.header past (first_to_drop (size_of told) parts.header past) drop refl (is (size_of told) (a.told_sized tell)) in
          let here : first_to_drop (size_of told) parts.header (without_tickets told) ≡ Some drop.0 =
          ap (first_to_drop (size_of told) parts.header) (plain-told content parts.events) ∙ told_first.0 in
          permits (legal_judge parts.header) parts.header told (event_with content event) (a.permitted tell)
          (ap (λ o. pays {T = List ℕ} o actor (Drop drop.0 drop.1)) (told-owed content parts.header parts.events actor drop.0 a.lawful last here))
          (actor-known actor known)
          (and_from (is_due parts.header told drop.0 drop.1) (last_actor_is (without_tickets told) actor)
          (victim-due parts.header told drop.0 drop.1 here (ap (λ (p : Past). victim p drop.0) (plain-told content parts.events) ∙ told_first.1))
          (lasts (without_tickets told) (sym (plain-told content parts.events))));
      sized = (a.sized.0, drop_stands a.sized.0 parts.header past parts.workers a.sized.1 actor drop);
      told_sized = λ tell. drop_stands (size_of told) parts.header past parts.workers (a.told_sized tell) actor drop;
      blocks = λ f worker block here.
          a.blocks f worker block
          (if-none (file_same f drop.1 && is_at drop.0 (option_map worker_found (found f parts.workers))) (found f parts.workers) (worker, block)
          (sym (dropped_there f drop.1 drop.0 parts.workers once) ∙ here));
      losses = λ worker n here. a.losses worker n (sym (changed_same (without drop.1) worker.0 drop.0.0 parts.workers) ∙ here);
      sound = a.sound;
      kept = a.kept;
      saved = a.saved;
      puts = a.puts;
      jobs = λ b claim here. a.jobs b claim (sym (same_either (actor_same b actor) (open_claim past b)) ∙ here);
      places = λ b f here. a.places b f (sym (same_either (actor_same b actor) (open_save past b)) ∙ here);
      room = omega arith;
    }

-- ---- what is held

drop-held : (f : FileId) (drop : WorkerId × FileId) (workers : Workers) (there : Bool) → IsOnce workers →
    is_at drop.0 (option_map worker_found (found drop.1 workers)) ≡ true → file_same f drop.1 ≡ there →
    held f (dropped (Some drop) workers) ≡ (if there then None else held f workers)
drop-held f drop workers true once at e =
    let same : f ≡ drop.1 = (file_same-Decides f drop.1).0 e in
    ap (option_map block_found) (dropped_there f drop.1 drop.0 workers once
    ∙ ap (λ b. if b then None else found f workers)
    (ap (λ b. b && is_at drop.0 (option_map worker_found (found f workers))) e
    ∙ ap (λ (g : FileId). is_at drop.0 (option_map worker_found (found g workers))) same ∙ at))
drop-held f drop workers false once at e =
    ap (option_map block_found) (dropped_there f drop.1 drop.0 workers once
    ∙ ap (λ b. if b && is_at drop.0 (option_map worker_found (found f workers)) then None else found f workers) e)

if-or : {A : Type 0} (a b : Bool) (o : Option A) → (if a then None else (if b then None else o)) ≡ (if a || b then None else o)
if-or true b o = refl
if-or false b o = refl

-- one drop more
pub settled-more : {T : Type 0} (tells : Bool) (content : T → List ℕ) (old parts : PartsState T) (actor : Actor) (drop : WorkerId × FileId) →
    Agrees tells content parts → can_drop (without_tickets parts.events) drop.0 drop.1 ≡ true →
    held_count (with_drop actor drop parts).workers + 1 ≡ held_count parts.workers →
    Settled actor old parts → Settled actor old (with_drop actor drop parts)
settled-more tells content old parts actor drop a can fewer s =
    let before : old.spare + held_count parts.workers ≤ parts.spare + held_count old.workers = s.room in
    let once : IsOnce parts.workers = agrees-once tells content parts a in record {
      drops = drop ∷ s.drops;
      header = s.header;
      events = ap (λ (events : List (Event _)). record { actor = actor; act = Drop drop.0 drop.1 } ∷ events) s.events;
      vault = s.vault;
      held = λ f.
          drop-held f drop parts.workers (file_same f drop.1) once (found-there tells content parts drop a can) refl
          ∙ ap (λ o. if file_same f drop.1 then None else o) (s.held f)
          ∙ if-or (file_same f drop.1) (is_among f s.drops) (held f old.workers);
      room = omega arith;
    }

pub settled-none : {T : Type 0} (actor : Actor) (parts : PartsState T) → Settled actor parts parts
settled-none actor parts = record { drops = []; header = refl; events = refl; vault = refl; held = λ f. refl; room = omega arith }

no-victim : (worker : WorkerId) (v : Option FileId) → is_some v ≡ true → option_map {U = WorkerId × FileId} (λ f. (worker, f)) v ≡ None → ⊥
no-victim worker None some is = cc
no-victim worker (Some f) some is = cc

-- where nothing is due no worker must drop
pub none-due : (sizes : Sizes) (header : Header) (past : Past) (o : Option WorkerId) → first_to_drop sizes header past ≡ o → due_on past o ≡ None →
    first_to_drop sizes header past ≡ None
none-due sizes header past None first is = first
none-due sizes header past (Some worker) first is =
    absurd (no-victim worker (victim past worker) (victim-found sizes header past worker first) is)

-- there is room for a drop of a file that is held
pub room_to_drop : {T : Type 0} (tells : Bool) (content : T → List ℕ) (parts : PartsState T) (fewer : ℕ) → Agrees tells content parts →
    fewer + 1 ≡ held_count parts.workers → 0 < parts.spare
room_to_drop tells content parts fewer a is =
    let room : under_way (without_tickets parts.events) + held_count parts.workers ≤ parts.spare = a.room in
    omega arith

-- a drop that is due
pub is-drop : {T : Type 0} (tells : Bool) (content : T → List ℕ) (parts new : PartsState T) (actor : Actor) (drop : WorkerId × FileId) (excepted : FileId → Bool) →
    Agrees tells content parts → actor.0 < 16 → last_actor_is (without_tickets parts.events) actor ≡ true →
    fleet.first_to_drop excepted parts.workers ≡ Some drop →
    ((sizes : Sizes) → StandsInOrder sizes parts.header (without_tickets parts.events) parts.workers →
    due sizes parts.header (without_tickets parts.events) ≡ Some drop) →
    new ≡ with_drop actor drop parts → IsDrop tells content actor parts new
is-drop tells content parts new actor drop excepted a known last first is e =
    let past : Past = without_tickets parts.events in
    let fewer : held_count (dropped (Some drop) parts.workers) + 1 ≡ held_count parts.workers =
    settled_held excepted drop parts.workers first (agrees-once tells content parts a) in
    let here = due-is a.sized.0 parts.header past (first_to_drop a.sized.0 parts.header past) drop refl (is a.sized.0 a.sized.1) in record {
      drop = drop;
      is = e;
      can = victim-goes past drop.0 drop.1 here.1;
      fewer = ap (λ (p : PartsState _). held_count p.workers + 1) e ∙ fewer;
      agrees = subst (Agrees tells content) (sym e) (drop-agrees tells content parts actor drop a known last is fewer);
    }

-- nothing is due
pub no-drop : {T : Type 0} (tells : Bool) (content : T → List ℕ) (parts : PartsState T) → Agrees tells content parts →
    ((sizes : Sizes) → StandsInOrder sizes parts.header (without_tickets parts.events) parts.workers →
    due sizes parts.header (without_tickets parts.events) ≡ None) →
    Stands tells content parts
no-drop tells content parts a is = record {
  agrees = a;
  settled = λ tell.
      let past : Past = without_tickets parts.events in
      let sizes : Sizes = size_of (events_with content parts.events) in
      none-due sizes parts.header past (first_to_drop sizes parts.header past) refl (is sizes (a.told_sized tell));
}
