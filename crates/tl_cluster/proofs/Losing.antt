-- A worker is lost.
use Rattle.std.proofs.Common.{◌≡◌, ℕ, suc, ◌+◌, ◌-◌, ◌<◌, ◌≤◌, ◌^◌, Bool, true, false, if◌then◌else◌, List, [], ◌∷◌, length, slice_get, Option, Some, None, IfSome, option_map, refl, sym, ap, ◌∙◌, arith}
use Rattle.std.proofs.lemmas.Bool.{lt-ltb}
use Rattle.tl_types.specs.Block.{FileOutcome}
use Rattle.tl_types.specs.Same.{actor_same, worker_same}
use Rattle.tl_types.specs.declared.actor.Actor.{Actor}
use Rattle.tl_types.specs.declared.file_id.FileId.{FileId}
use Rattle.tl_types.specs.declared.worker_id.WorkerId.{WorkerId}
use Rattle.tl_model.specs.declared.event.Act.TheVariants.{Lose}
use Rattle.tl_model.specs.declared.event.Event.{Event}
use Rattle.tl_model.specs.Past.{Past, events_with, without_tickets}
use Rattle.tl_model.specs.Actors.{open_claim, open_save, is_on}
use Rattle.tl_model.specs.Residency.{is_at}
use Rattle.tl_model.specs.Rules.{is_known_worker, size_of}
use Rattle.tl_fleet.specs.Workers.{found, held_count, incarnation_of, lost, worker_found}
use Rattle.tl_fleet.specs.declared.worker.Worker.{Worker}
use Rattle.tl_fleet.proofs.Events.{loss_stands}
use Rattle.tl_fleet.proofs.Found.{lost_there}
use Rattle.tl_fleet.proofs.Held.{lost_fewer}
use Rattle.tl_fleet.proofs.Incarnations.{lost_raises}
use Rattle.tl_cluster.specs.Losses.{incarnation, loses, without_worker}
use Rattle.tl_cluster.specs.Main.{with_lost}
use Rattle.tl_cluster.specs.Room.{under_way}
use Rattle.tl_cluster.specs.Stands.{Agrees, PartsState, Stands}
use Rattle.tl_cluster.specs.State.{block_found, held}
use Rattle.tl_cluster.proofs.Carry.{if-none, same_either}
use Rattle.tl_cluster.proofs.Count.{under_way-few}
use Rattle.tl_cluster.proofs.Settling.{agrees-once}
use Rattle.tl_cluster.proofs.Steps.{goes-on, placed, told-goes-on}
use Rattle.tl_cluster.proofs.Turning.{state_of}

-- what was counted before a raise
raised : (o : Option ℕ) (b : Bool) (n : ℕ) → option_map (λ m. if b then m + 1 else m) o ≡ Some n → (m : ℕ) × (o ≡ Some m) × (n ≡ (if b then m + 1 else m))
raised None b n is = absurd (cc)
raised (Some m) b n is =
    let same : (if b then m + 1 else m) ≡ n = cc in
    (m, refl, sym same)

pub lost-agrees : {T : Type 0} (tells : Bool) (content : T → List ℕ) (parts : PartsState T) (actor : Actor) (worker : WorkerId) →
    Stands tells content parts → actor.0 < 16 → worker.0 < parts.header.workers → 51 + held_count parts.workers ≤ parts.spare →
    Agrees tells content (with_lost actor worker parts)
lost-agrees tells content parts actor worker s known within room =
    let past : Past = without_tickets parts.events in
    let a : Agrees tells content parts = s.agrees in
    let there : is_known_worker parts.header worker ≡ true = lt-ltb worker.0 parts.header.workers within in
    let once = agrees-once tells content parts a in
    let few : under_way (record { actor = actor; act = Lose worker } ∷ past) ≤ 48 = under_way-few (record { actor = actor; act = Lose worker } ∷ past) in
    let fewer : held_count (lost worker parts.workers) ≤ held_count parts.workers = lost_fewer worker parts.workers in
    record {
      lawful = goes-on tells content parts actor (Lose worker) s known there refl;
      permitted = λ tell. told-goes-on tells content parts actor (Lose worker) s known tell there;
      sized = (a.sized.0, loss_stands a.sized.0 parts.header past parts.workers a.sized.1 actor worker);
      told_sized = λ tell. loss_stands (size_of (events_with content parts.events)) parts.header past parts.workers (a.told_sized tell) actor worker;
      blocks = λ f w b is. a.blocks f w b (if-none (is_at worker (option_map worker_found (found f parts.workers))) (found f parts.workers) (w, b)
          (sym (lost_there f worker parts.workers once) ∙ is));
      losses = λ w n is.
          let before = raised (option_map incarnation_of (slice_get parts.workers w.0)) (worker_same w worker) n (sym (lost_raises w worker parts.workers) ∙ is) in
          before.2 ∙ ap (λ m. if worker_same w worker then m + 1 else m) (a.losses w before.0 before.1);
      sound = a.sound;
      kept = a.kept;
      saved = a.saved;
      puts = a.puts;
      jobs = λ b claim is.
          a.jobs b claim (sym (same_either (actor_same b actor) (open_claim past b))
          ∙ if-none (is_on worker (if actor_same b actor then open_claim past b else open_claim past b)) (if actor_same b actor then open_claim past b else open_claim past b) claim is);
      places = λ b f is. a.places b f (sym (same_either (actor_same b actor) (open_save past b)) ∙ is);
      room = omega arith;
    }

-- what is held is what was held elsewhere
held-none : (b : Bool) (o : Option (WorkerId × FileOutcome)) → option_map block_found (if b then None else o) ≡ (if b then None else option_map block_found o)
held-none true o = refl
held-none false o = refl

pub held-lost : {T : Type 0} (tells : Bool) (content : T → List ℕ) (parts : PartsState T) (worker : WorkerId) (f : FileId) → Agrees tells content parts →
    held f (lost worker parts.workers) ≡ without_worker worker (state_of parts) f
held-lost tells content parts worker f a =
    ap (option_map block_found) (lost_there f worker parts.workers (agrees-once tells content parts a))
    ∙ held-none (is_at worker (option_map worker_found (found f parts.workers))) (found f parts.workers)
    ∙ ap (λ (o : Option WorkerId). if is_at worker o then None else held f parts.workers) (placed tells content parts a f)

few-step : (b : Bool) (n m : ℕ) → n ≤ m → (if b then n + 1 else n) ≤ suc m
few-step true n m l = omega arith
few-step false n m l = omega arith

-- a worker's losses are events
pub losses-few : {T : Type 0} (events : List (Event T)) (worker : WorkerId) → incarnation events worker ≤ length events
losses-few [] worker = omega arith
losses-few (e ∷ events) worker = few-step (loses worker e.act) (incarnation events worker) (length events) (losses-few events worker)

-- a worker's incarnation has not come to its end
pub may-be-lost : {T : Type 0} (tells : Bool) (content : T → List ℕ) (parts : PartsState T) (worker : WorkerId) (o : Option Worker) → Agrees tells content parts →
    suc (length parts.events) < 2 ^ 64 → slice_get parts.workers worker.0 ≡ o → IfSome o (λ w. w.incarnation < 2 ^ 64 - 1)
may-be-lost tells content parts worker None a short is = tt
may-be-lost tells content parts worker (Some w) a short is =
    let counted : w.incarnation ≡ incarnation parts.events worker = a.losses worker w.incarnation (ap (option_map incarnation_of) is) in
    let few : incarnation parts.events worker ≤ length parts.events = losses-few parts.events worker in
    omega arith
