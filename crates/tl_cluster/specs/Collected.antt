-- How records are let go.
use Rattle.std.specs.Prelude.{◌≡◌, ◌≤◌, ◌<◌, ◌+◌, ℕ, zero, suc, min, Bool, List, ◌∷◌, length, filter, Some, None}
use Rattle.tl_types.specs.declared.actor.Actor.{Actor}
use Rattle.tl_types.specs.declared.record_id.RecordId.{RecordId}
use Rattle.tl_model.specs.declared.event.Act.TheVariants.{Collect}
use Rattle.tl_model.specs.History.{id_of, records}
use Rattle.tl_model.specs.Needs.{garbage}
use Rattle.tl_model.specs.Past.{Past, without_tickets}
use Rattle.tl_model.specs.Residency.{is_kept}
use Rattle.tl_fleet.specs.Workers.{held_count}
use Rattle.tl_cluster.specs.Jobs.{state_of}
use Rattle.tl_cluster.specs.Stands.{PartsState, Stands}
use Rattle.tl_cluster.specs.State.{State, past_of}
use Rattle.tl_cluster.specs.Turned.{Turned, as_held}

-- the least record that was kept and not needed was let go
abbrev pub LetGoOne : {T : Type 0} → Actor → State T → State T → Type 0
LetGoOne actor old new =
    (made : RecordId) × (garbage (past_of old) ≡ Some made)
    × Turned actor old (record { actor = actor; act = Collect made } ∷ old.events)
    (as_held old) new

-- so many records were let go one after another, each the least that was kept and not needed
abbrev pub LetGo : {T : Type 0} → Actor → ℕ → State T → State T → Type 0
LetGo actor zero old new = new ≡ old
LetGo {T} actor (suc k) old new =
    (mid : State T) × LetGo actor k old mid × LetGoOne actor mid new

-- so many were let go, n at most: fewer only where then no record is kept and not needed
abbrev pub Collected : {T : Type 0} → Actor → ℕ → State T → State T → ℕ → Type 0
Collected actor n old new k =
    LetGo actor k old new × (k ≤ n) × (k < n → garbage (past_of new) ≡ None)

-- ---- of the parts

-- how many records are kept
abbrev pub kept_count : Past → ℕ
kept_count past = length (filter (λ r. is_kept past (id_of r)) (records past))

-- there is room for a turn, after so many records were let go, or all that are kept
abbrev pub HasRoomToCollect : {T : Type 0} → ℕ → PartsState T → Type 0
HasRoomToCollect n parts =
    51 + held_count parts.workers + min n (kept_count (without_tickets parts.events)) ≤ parts.spare

-- the least record that was kept and not needed was let go, which took one event's room
pub record IsLetGo {T : Type 0} (tells : Bool) (content : T → List ℕ) (actor : Actor)
    (old new : PartsState T) : Type 0 where
  pub one : LetGoOne actor (state_of old) (state_of new)
  pub fewer :
      kept_count (without_tickets new.events) < kept_count (without_tickets old.events)
  pub room : old.spare + held_count new.workers ≤ new.spare + held_count old.workers + 1
  pub stands : Stands tells content new
