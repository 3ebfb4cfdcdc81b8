-- A record is let go.
use Rattle.std.proofs.Common.{◌≡◌, ℕ, suc, ◌+◌, ◌-◌, ◌<◌, ◌≤◌, min, Bool, List, ◌∷◌, length, Some, refl, sym, ap, ◌∙◌, subst, arith}
use Rattle.tl_types.specs.Same.{actor_same}
use Rattle.tl_types.specs.declared.actor.Actor.{Actor}
use Rattle.tl_types.specs.declared.record_id.RecordId.{RecordId}
use Rattle.tl_model.specs.declared.event.Act.TheVariants.{Collect}
use Rattle.tl_model.specs.declared.event.Event.{Event}
use Rattle.tl_model.specs.Actors.{open_claim, open_save}
use Rattle.tl_model.specs.History.{records}
use Rattle.tl_model.specs.Needs.{garbage}
use Rattle.tl_model.specs.Past.{Past, without_tickets}
use Rattle.tl_fleet.specs.Workers.{held_count}
use Rattle.tl_cluster.specs.Collected.{HasRoomToCollect, IsLetGo, LetGo, LetGoOne, kept_count}
use Rattle.tl_cluster.specs.Jobs.{state_of}
use Rattle.tl_cluster.specs.Main.{with_let_go}
use Rattle.tl_cluster.specs.Room.{under_way}
use Rattle.tl_cluster.specs.Stands.{Agrees, IsRoomier, PartsState, Stands}
use Rattle.tl_cluster.specs.State.{State}
use Rattle.tl_cluster.specs.Turned.{Settled, as_held}
use Rattle.tl_cluster.proofs.Carry.{same_either}
use Rattle.tl_cluster.proofs.Count.{under_way-few}
use Rattle.tl_cluster.proofs.KeptCount.{kept-dropped, kept-few, may-let-go, one-less}
use Rattle.tl_cluster.proofs.Steps.{goes-on, told-goes-on}
use Rattle.tl_cluster.proofs.Turning.{turned}

-- the main event
pub let-go : {T : Type 0} (tells : Bool) (content : T → List ℕ) (parts : PartsState T) (actor : Actor) (made : RecordId) →
    Stands tells content parts → actor.0 < 16 → garbage (without_tickets parts.events) ≡ Some made → 51 + held_count parts.workers ≤ parts.spare →
    Agrees tells content (with_let_go actor made parts)
let-go tells content parts actor made s known least room =
    let past : Past = without_tickets parts.events in
    let a : Agrees tells content parts = s.agrees in
    let free = may-let-go past made least in
    let few : under_way (record { actor = actor; act = Collect made } ∷ past) ≤ 48 = under_way-few (record { actor = actor; act = Collect made } ∷ past) in
    record {
      lawful = goes-on tells content parts actor (Collect made) s known free refl;
      permitted = λ tell. told-goes-on tells content parts actor (Collect made) s known tell free;
      sized = a.sized;
      told_sized = a.told_sized;
      blocks = a.blocks;
      losses = a.losses;
      sound = a.sound;
      kept = a.kept;
      saved = a.saved;
      puts = a.puts;
      jobs = λ b claim e. a.jobs b claim (sym (same_either (actor_same b actor) (open_claim past b)) ∙ e);
      places = λ b f e. a.places b f (sym (same_either (actor_same b actor) (open_save past b)) ∙ e);
      room = omega arith;
    }

-- with the drops after it
pub is-let-go : {T : Type 0} (tells : Bool) (content : T → List ℕ) (old new : PartsState T) (actor : Actor) (made : RecordId) →
    garbage (without_tickets old.events) ≡ Some made → Settled actor (with_let_go actor made old) new → Stands tells content new →
    IsLetGo tells content actor old new
is-let-go tells content old new actor made least s stands =
    let fewer : kept_count (without_tickets (with_let_go actor made old).events) < kept_count (without_tickets old.events) =
    one-less (without_tickets old.events) actor made least in
    let same : kept_count (without_tickets new.events) ≡ kept_count (without_tickets (with_let_go actor made old).events) =
    ap (λ (events : List (Event _)). kept_count (without_tickets events)) s.events ∙ kept-dropped actor s.drops (with_let_go actor made old).events in
    let room : (old.spare - 1) + held_count new.workers ≤ new.spare + held_count old.workers = s.room in
    record {
      one = (made, least, turned actor old (with_let_go actor made old) new (as_held (state_of old)) refl (λ f. refl) s);
      fewer = omega arith;
      room = omega arith;
      stands = stands;
    }

-- ---- one after another

pub let-go-more : {T : Type 0} (actor : Actor) (k : ℕ) (old mid new : State T) → LetGo actor k old mid → LetGoOne actor mid new → LetGo actor (k + 1) old new
let-go-more actor k old mid new before one =
    let next : suc k ≡ k + 1 = omega arith in
    subst (λ (n : ℕ). LetGo actor n old new) next (mid, before, one)

-- there is room to go on
pub room-left : {T : Type 0} (tells : Bool) (content : T → List ℕ) (old new : PartsState T) (actor : Actor) (n k : ℕ) → k < n →
    IsLetGo tells content actor old new → HasRoomToCollect (n - k) old → HasRoomToCollect (n - (k + 1)) new
room-left tells content old new actor n k more one room =
    let fewer : kept_count (without_tickets new.events) < kept_count (without_tickets old.events) = one.fewer in
    let took : old.spare + held_count new.workers ≤ new.spare + held_count old.workers + 1 = one.room in
    omega arith

-- there is room at first
pub room-made : {T : Type 0} (n accepted most : ℕ) (old new : PartsState T) → accepted ≡ length (records (without_tickets old.events)) → most ≡ min n accepted →
    IsRoomier most old new → HasRoomToCollect n new
room-made n accepted most old new counted least r =
    let few : kept_count (without_tickets old.events) ≤ length (records (without_tickets old.events)) = kept-few (without_tickets old.events) in
    let room : 51 + held_count old.workers + most ≤ new.spare = r.room in
    let P : PartsState _ → Type 0 = λ p. 51 + held_count p.workers + min n (kept_count (without_tickets p.events)) ≤ new.spare in
    subst P (sym r.is) (omega arith)
