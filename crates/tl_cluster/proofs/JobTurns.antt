-- The turns of a job: what they answer and what is held after them.
use Rattle.std.proofs.Common.{◌≡◌, ℕ, ◌<◌, Bool, List, ◌∷◌, length, map, Some, option_map, refl, sym, ap, subst}
use Rattle.tl_types.specs.Block.{FileOutcome}
use Rattle.tl_types.specs.declared.actor.Actor.{Actor}
use Rattle.tl_types.specs.declared.record_id.RecordId.{RecordId}
use Rattle.tl_types.specs.declared.worker_id.WorkerId.{WorkerId}
use Rattle.tl_model.specs.declared.event.Act.TheVariants.{Done}
use Rattle.tl_model.specs.Past.{without_tickets}
use Rattle.tl_model.specs.History.{outputs_of, record_at}
use Rattle.tl_fleet.specs.Events.{file_of}
use Rattle.tl_fleet.proofs.Found.{each_touched}
use Rattle.tl_cluster.specs.declared.feeds.Taken.{Taken}
use Rattle.tl_cluster.specs.Jobs.{IsClaimed, IsDone, missing_of, state_of, with_claimed, with_done}
use Rattle.tl_cluster.specs.Stands.{PartsState, Stands}
use Rattle.tl_cluster.specs.State.{State, block_found}
use Rattle.tl_cluster.specs.Taken.{IsTaken}
use Rattle.tl_cluster.specs.Turned.{Settled, Turned, as_held}
use Rattle.tl_cluster.specs.Works.{Claimed, with_blocks}
use Rattle.tl_cluster.proofs.Claiming.{lawful-numbered}
use Rattle.tl_cluster.proofs.Finishing.{held-done, missing-ascend}
use Rattle.tl_cluster.proofs.Turning.{turned}

-- what a claim answers
pub claimed-work : {T : Type 0} (tells : Bool) (content : T → List ℕ) (old : State T) (parts mid new : PartsState T) (actor : Actor) (worker : WorkerId) (taken : Taken T) →
    state_of parts ≡ old → IsTaken tells content parts actor worker taken → IsClaimed actor worker taken.work.rec taken.files.items parts mid → Settled actor mid new →
    Claimed tells content old (state_of new) actor worker (Some taken.work)
claimed-work tells content old parts mid new actor worker taken view t c s =
    let files = taken.files.items in
    subst (λ (o : State _). Claimed tells content o (state_of new) actor worker (Some taken.work)) view (
      t.is_next,
      turned actor parts (with_claimed actor worker taken.work.rec files (record parts { spare = c.spare })) new (as_held (state_of parts)) refl
          (λ f. ap (option_map block_found) (each_touched f files parts.workers))
          (subst (λ (p : PartsState _). Settled actor p new) c.is s),
      t.for_actor,
      t.on_worker,
      t.losses,
      t.at_place,
      t.job,
    )

-- what a done job leaves
pub done-turned : {T : Type 0} (tells : Bool) (content : T → List ℕ) (old : State T) (parts mid new : PartsState T) (actor : Actor) (worker : WorkerId) (made : RecordId)
    (blocks : List FileOutcome) → state_of parts ≡ old → Stands tells content parts → worker.0 < parts.header.workers →
    option_map outputs_of (record_at (without_tickets parts.events) made) ≡ Some (map file_of blocks) →
    IsDone actor worker made blocks parts mid → Settled actor mid new →
    Turned actor old (record { actor = actor; act = Done worker made } ∷ old.events) (with_blocks blocks old) (state_of new)
done-turned tells content old parts mid new actor worker made blocks view stands within outputs d s =
    let there : worker.0 < length parts.workers = subst (λ (k : ℕ). worker.0 < k) (sym stands.agrees.sized.1.0) within in
    let ascends = missing-ascend (without_tickets parts.events) made parts.workers blocks
    (lawful-numbered parts.header parts.events stands.agrees.lawful) outputs in
    subst (λ (o : State _). Turned actor o (record { actor = actor; act = Done worker made } ∷ o.events) (with_blocks blocks o) (state_of new)) view
    (turned actor parts (with_done actor worker made (missing_of parts.workers blocks) (record parts { spare = d.spare })) new (with_blocks blocks (state_of parts)) refl
    (λ f. held-done f worker parts.workers blocks there ascends) (subst (λ (p : PartsState _). Settled actor p new) d.is s))
