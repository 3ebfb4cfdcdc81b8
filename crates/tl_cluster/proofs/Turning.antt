-- A main event and the drops after it are a turn.
use Rattle.std.proofs.Common.{◌≡◌, ℕ, Bool, true, false, if◌then◌else◌, List, ◌∷◌, Option, Some, None, option_map, refl, sym, ap, ◌∙◌, subst}
use Rattle.tl_types.specs.Block.{FileOutcome}
use Rattle.tl_types.specs.Outcome.{digest_of}
use Rattle.tl_types.specs.declared.actor.Actor.{Actor}
use Rattle.tl_types.specs.declared.digest.Digest.{Digest}
use Rattle.tl_types.specs.declared.file_id.FileId.{FileId}
use Rattle.tl_model.specs.declared.event.Act.TheVariants.{Served}
use Rattle.tl_model.specs.Past.{events_with}
use Rattle.tl_model.specs.Residency.{is_resident}
use Rattle.tl_model.specs.Values.{value}
use Rattle.tl_laws_drops.specs.Drops.{is_among}
use Rattle.tl_fleet.specs.Workers.{Workers, all_touched}
use Rattle.tl_fleet.proofs.Found.{found_file, one_touched}
use Rattle.tl_cluster.specs.declared.look.Look.{Look}
use Rattle.tl_cluster.specs.declared.look.Look.TheVariants as looked
use Rattle.tl_cluster.specs.Looks.{InStore, Looked}
use Rattle.tl_cluster.specs.Main.{with_served}
use Rattle.tl_cluster.specs.Stands.{Agrees, PartsState}
use Rattle.tl_cluster.specs.State.{State, block_found, held, past_of}
use Rattle.tl_cluster.specs.Turned.{Settled, Turned, as_held}
use Rattle.tl_cluster.proofs.Reading.{found-held}

-- what contracts see of the parts
abbrev pub state_of : {T : Type 0} → PartsState T → State T
state_of parts = record { header = parts.header; events = parts.events; workers = parts.workers }

pub turned : {T : Type 0} (actor : Actor) (old main new : PartsState T) (blocks : FileId → Option FileOutcome) → main.header ≡ old.header →
    ((f : FileId) → held f main.workers ≡ blocks f) → Settled actor main new → Turned actor (state_of old) main.events blocks (state_of new)
turned actor old main new blocks header same s = record {
  drops = s.drops;
  header = s.header ∙ header;
  events = s.events;
  held = λ f. s.held f ∙ ap (λ o. if is_among f s.drops then None else o) (same f);
}

-- ---- what is held

pub held-file : {T : Type 0} (parts : PartsState T) (f : FileId) (block : FileOutcome) → held f parts.workers ≡ Some block → block.file ≡ f
held-file parts f block is =
    let at = found-held f parts.workers block is in
    found_file f at.0 block parts.workers at.1

pub held-value : {T : Type 0} (tells : Bool) (content : T → List ℕ) (parts : PartsState T) → Agrees tells content parts → (f : FileId) (block : FileOutcome) →
    held f parts.workers ≡ Some block → tells ≡ true → block.outcome ≡ value (events_with content parts.events) f
held-value tells content parts a f block is tell =
    let at = found-held f parts.workers block is in
    (a.blocks f at.0 block at.1).2 tell ∙ ap (value (events_with content parts.events)) (found_file f at.0 block parts.workers at.1)

pub held-touched : (g f : FileId) (workers : Workers) → held g (all_touched f workers) ≡ held g workers
held-touched g f workers = ap (option_map block_found) (one_touched g f workers)

-- ---- a look

pub looked-have : {T : Type 0} (tells : Bool) (content : T → List ℕ) (old new : PartsState T) (actor : Actor) (f : FileId) (digest : Digest) (block : FileOutcome) →
    held f old.workers ≡ Some block → digest.0 ≡ digest_of block.outcome → Settled actor (with_served actor f digest old) new →
    Looked tells content (state_of old) (state_of new) actor f (looked.Have block)
looked-have {T} tells content old new actor f digest block is digests s =
    let file : block.file ≡ f = held-file old f block is in (
      is,
      file,
      (
        digest,
        digests,
        subst (λ (g : FileId). Turned actor (state_of old) (record { actor = actor; act = Served g digest } ∷ old.events) (as_held (state_of old)) (state_of new)) (sym file)
            (turned actor old (with_served actor f digest old) new (as_held (state_of old)) refl (λ g. held-touched g f old.workers) s),
      ),
    )

pub looked-store : {T : Type 0} (tells : Bool) (content : T → List ℕ) (state : State T) (actor : Actor) (f : FileId) (look : Look T) →
    is_resident (past_of state) f ≡ false → InStore tells content state.events f look → Looked tells content state state actor f look
looked-store tells content state actor f (looked.Have block) nowhere is = absurd is
looked-store tells content state actor f (looked.Saved saved) nowhere is = (nowhere, is, refl)
looked-store tells content state actor f looked.NotYet nowhere is = (is, refl)
