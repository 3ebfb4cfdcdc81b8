-- A worker is lost.
use Rattle.std.proofs.Common.{◌≡◌, ℕ, ◌-◌, ◌<◌, ◌≤◌, Bool, true, false, not, if◌then◌else◌, filter, List, ◌∷◌, Option, Some, None, option_map, refl, sym, ap, ◌∙◌, arith}
use Rattle.std.proofs.lemmas.Bool.{lt-ltb}
use Rattle.std.specs.List.{AllByRecursion}
use Rattle.tl_types.specs.Same.{actor_same, worker_same}
use Rattle.tl_types.specs.declared.actor.Actor.{Actor}
use Rattle.tl_types.specs.declared.file_id.FileId.{FileId}
use Rattle.tl_types.specs.declared.worker_id.WorkerId.{WorkerId}
use Rattle.tl_model.specs.declared.event.Act.TheVariants.{Lose}
use Rattle.tl_model.specs.declared.event.Event.{Event}
use Rattle.tl_model.specs.declared.header.Header.{Header}
use Rattle.tl_model.specs.Past.{Past, events_with, without_tickets}
use Rattle.tl_model.specs.Actors.{open_claim, is_on}
use Rattle.tl_model.specs.Residency.{place, is_at, is_resident_on}
use Rattle.tl_model.specs.Rules.{lawful_judge}
use Rattle.tl_laws.proofs.Permits.{holds-one, actor-known}
use Rattle.tl_core.specs.declared.resident.Resident.{Resident}
use Rattle.tl_core.specs.Residents.{Residents, found, held, worker_of, block_of, is_elsewhere}
use Rattle.tl_core.specs.Room.{under_way}
use Rattle.tl_core.specs.State.{Stands, IsHeld, undropped_judge}
use Rattle.tl_core.proofs.Count.{under_way-few}
use Rattle.tl_core.proofs.Held.{found-left, all-map, all-filter}
use Rattle.tl_core.proofs.Carry.{same_either, none_or}

-- of each file all that is held is on one worker, so all of it is kept or none
found-lost : {T : Type 0} (tells : Bool) (content : T → List ℕ) (events : List (Event T)) (residents : Residents) (worker : WorkerId) (f : FileId) →
    AllByRecursion (IsHeld tells content events) residents →
    found f (filter (is_elsewhere worker) residents) ≡ (if not (is_resident_on (without_tickets events) f worker) then found f residents else None)
found-lost tells content events residents worker f held_all =
    found-left f (not (is_resident_on (without_tickets events) f worker)) (is_elsewhere worker) residents
    (all-map (IsHeld tells content events) (λ r. r.block.file ≡ f → is_elsewhere worker r ≡ not (is_resident_on (without_tickets events) f worker))
    (λ r h same. ap (λ (w : Option WorkerId). not (is_at worker w)) (sym h.0 ∙ ap (place (without_tickets events)) same)) residents held_all)

pub maps_either : {A : Type 0} (g : Resident → A) (b : Bool) (o : Option Resident) → option_map g (if not b then o else None) ≡ (if b then None else option_map g o)
maps_either g true o = refl
maps_either g false o = refl

pub held-lost : {T : Type 0} (tells : Bool) (content : T → List ℕ) (events : List (Event T)) (residents : Residents) (worker : WorkerId) (f : FileId) →
    AllByRecursion (IsHeld tells content events) residents →
    held f (filter (is_elsewhere worker) residents) ≡ (if is_resident_on (without_tickets events) f worker then None else held f residents)
held-lost tells content events residents worker f held_all =
    ap (option_map block_of) (found-lost tells content events residents worker f held_all)
    ∙ maps_either block_of (is_resident_on (without_tickets events) f worker) (found f residents)

elsewhere-stays : (worker : WorkerId) (here : Option WorkerId) (r : Resident) (b : Bool) → worker_same worker r.worker ≡ b → here ≡ Some r.worker → not b ≡ true →
    (if is_at worker here then None else here) ≡ Some r.worker
elsewhere-stays worker here r true e is stays = absurd (cc)
elsewhere-stays worker here r false e is stays =
    ap (λ (w : Option WorkerId). if is_at worker w then None else w) is ∙ ap (λ b. if b then None else Some r.worker) e

pub lost : {T : Type 0} (tells : Bool) (content : T → List ℕ) (header : Header) (events : List (Event T)) (residents : Residents) (spare room : ℕ)
    (actor : Actor) (worker : WorkerId) → Stands tells content header events residents spare → actor.0 < 16 → worker.0 < header.workers → 51 ≤ room →
    Stands tells content header (record { actor = actor; act = Lose worker } ∷ events) (filter (is_elsewhere worker) residents) (room - 1)
lost tells content header events residents spare room actor worker s there known enough =
    let past : Past = without_tickets events in
    record {
      lawful = holds-one lawful_judge header events (record { actor = actor; act = Lose worker }) s.lawful (actor-known actor there) (lt-ltb worker.0 header.workers known) refl;
      told = λ tell. holds-one (undropped_judge header) header (events_with content events) (record { actor = actor; act = Lose worker }) (s.told tell) (actor-known actor there)
          (lt-ltb worker.0 header.workers known) refl;
      places = λ f.
          ap (option_map worker_of) (found-lost tells content events residents worker f s.blocks)
          ∙ maps_either worker_of (is_resident_on past f worker) (found f residents)
          ∙ ap (λ (w : Option WorkerId). if is_resident_on past f worker then None else w) (s.places f);
      blocks = all-filter (IsHeld tells content events) (IsHeld tells content (record { actor = actor; act = Lose worker } ∷ events)) (is_elsewhere worker)
          (λ r h stays. (elsewhere-stays worker (place past r.block.file) r (worker_same worker r.worker) refl h.0 stays, h.1)) residents s.blocks;
      sound = s.sound;
      saved = s.saved;
      puts = s.puts;
      whole = s.whole;
      jobs = λ a claim is. s.jobs a claim (sym (same_either (actor_same a actor) (open_claim past a)) ∙
          none_or (is_on worker (if actor_same a actor then open_claim past a else open_claim past a)) (if actor_same a actor then open_claim past a else open_claim past a) claim is);
      room = let few : under_way (record { actor = actor; act = Lose worker } ∷ past) ≤ 48 = under_way-few (record { actor = actor; act = Lose worker } ∷ past) in omega arith;
    }
