-- What a loaded block answers.
use Rattle.std.proofs.Common.{◌≡◌, ℕ, ◌<◌, Bool, true, false, if◌then◌else◌, List, ◌∷◌, length, Option, Some, is_some, option_map, refl, sym, ap, ◌∙◌, subst}
use Rattle.tl_types.specs.Block.{FileOutcome}
use Rattle.tl_types.specs.Outcome.{digest_of}
use Rattle.tl_types.specs.Same.{file_same}
use Rattle.tl_types.specs.declared.actor.Actor.{Actor}
use Rattle.tl_types.specs.declared.digest.Digest.{Digest}
use Rattle.tl_types.specs.declared.file_id.FileId.{FileId}
use Rattle.tl_types.specs.declared.worker_id.WorkerId.{WorkerId}
use Rattle.tl_model.specs.declared.event.Act.TheVariants.{Served}
use Rattle.tl_model.specs.Past.{without_tickets}
use Rattle.tl_model.specs.Residency.{is_resident}
use Rattle.tl_fleet.specs.Workers.{Workers, all_touched, found, installed}
use Rattle.tl_fleet.specs.Workers as fleet
use Rattle.tl_fleet.proofs.Found.{one_brought}
use Rattle.tl_cluster.specs.Looks.{Loaded, with_block}
use Rattle.tl_cluster.specs.Main.{IsLoaded, with_loaded, with_served}
use Rattle.tl_cluster.specs.Stands.{Agrees, PartsState}
use Rattle.tl_cluster.specs.State.{block_found, held}
use Rattle.tl_cluster.specs.Turned.{Settled, Turned, as_held}
use Rattle.tl_cluster.proofs.Rooms.{absent-workers}
use Rattle.tl_cluster.proofs.Steps.{held-resident}
use Rattle.tl_cluster.proofs.Turning.{held-file, held-touched, state_of, turned}

-- the block that is held serves the read
pub loaded-held : {T : Type 0} (tells : Bool) (content : T → List ℕ) (old new : PartsState T) (actor : Actor) (worker : WorkerId) (block answer : FileOutcome)
    (f : FileId) (digest : Digest) → Agrees tells content old → f ≡ block.file → held f old.workers ≡ Some answer → digest.0 ≡ digest_of answer.outcome →
    Settled actor (with_served actor f digest old) new → Loaded (state_of old) (state_of new) actor worker block answer
loaded-held {T} tells content old new actor worker block answer f digest a file is digests s = (
  λ resident. (
    ap (λ (g : FileId). held g old.workers) (sym file) ∙ is,
    (
      digest,
      digests,
      subst (λ (g : FileId). Turned actor (state_of old) (record { actor = actor; act = Served g digest } ∷ old.events) (as_held (state_of old)) (state_of new))
          (sym (held-file old f answer is))
          (turned actor old (with_served actor f digest old) new (as_held (state_of old)) refl (λ g. held-touched g f old.workers) s),
    ),
  ),
  λ nowhere.
      let there : is_resident (without_tickets old.events) block.file ≡ true =
      sym (held-resident tells content old a block.file) ∙ ap (λ (g : FileId). is_some (held g old.workers)) (sym file) ∙ ap is_some is in
      absurd (cc),
)

brought-if : (b : Bool) (worker : WorkerId) (block : FileOutcome) (o : Option (WorkerId × FileOutcome)) →
    option_map block_found (if b then Some (worker, block) else o) ≡ (if b then Some block else option_map block_found o)
brought-if true worker block o = refl
brought-if false worker block o = refl

held-brought : (g : FileId) (worker : WorkerId) (block : FileOutcome) (workers : Workers) → worker.0 < length workers → fleet.is_resident block.file workers ≡ false →
    held g (all_touched block.file (installed worker block workers)) ≡ (if file_same g block.file then Some block else held g workers)
held-brought g worker block workers within absent =
    held-touched g block.file (installed worker block workers)
    ∙ ap (option_map block_found) (one_brought g worker block workers within absent)
    ∙ brought-if (file_same g block.file) worker block (found g workers)

-- the block that was loaded comes to the worker and serves the read
pub loaded-brought : {T : Type 0} (tells : Bool) (content : T → List ℕ) (old main new : PartsState T) (actor : Actor) (worker : WorkerId) (block answer : FileOutcome) →
    Agrees tells content old → worker.0 < old.header.workers → is_resident (without_tickets old.events) block.file ≡ false → answer ≡ block →
    IsLoaded actor worker block old main → Settled actor main new → Loaded (state_of old) (state_of new) actor worker block answer
loaded-brought {T} tells content old main new actor worker block answer a within nowhere same is s = (
  λ resident. absurd (cc),
  λ gone. (
    same,
    (
      is.digest,
      is.of_block,
      turned actor old (with_served actor block.file is.digest (with_loaded actor worker block (record old { spare = is.spare }))) new (with_block block (state_of old)) refl
          (λ g. held-brought g worker block old.workers (subst (λ (n : ℕ). worker.0 < n) (sym a.sized.1.0) within)
          (absent-workers tells content old block.file a nowhere))
          (subst (λ (p : PartsState T). Settled actor p new) is.is s),
    ),
  ),
)
