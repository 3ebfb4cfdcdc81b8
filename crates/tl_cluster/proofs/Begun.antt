-- What the beginning of a save answers.
use Rattle.std.proofs.Common.{◌≡◌, ℕ, Bool, true, List, ◌∷◌, length, Some, is_some, refl, sym, ap, ◌∙◌, subst}
use Rattle.tl_types.specs.Block.{FileOutcome}
use Rattle.tl_types.specs.declared.actor.Actor.{Actor}
use Rattle.tl_types.specs.declared.file_id.FileId.{FileId}
use Rattle.tl_model.specs.declared.event.Act.TheVariants.{Save}
use Rattle.tl_model.specs.declared.event.Event.{Event}
use Rattle.tl_model.specs.Checkpoints.{next_save}
use Rattle.tl_model.specs.Past.{without_tickets}
use Rattle.tl_steps.proofs.Saving.{can-parts, next-can}
use Rattle.tl_cluster.specs.Main.{with_begun}
use Rattle.tl_cluster.specs.Saves.{Begun}
use Rattle.tl_cluster.specs.Stands.{Agrees, IsReady, PartsState}
use Rattle.tl_cluster.specs.State.{held}
use Rattle.tl_cluster.specs.Turned.{Settled, Turned, as_held}
use Rattle.tl_cluster.proofs.Steps.{held-resident}
use Rattle.tl_cluster.proofs.Turning.{held-file, state_of, turned}

-- what is saved next is held
pub next-held : {T : Type 0} (tells : Bool) (content : T → List ℕ) (parts : PartsState T) (f : FileId) → Agrees tells content parts →
    next_save parts.header (without_tickets parts.events) ≡ Some f → is_some (held f parts.workers) ≡ true
next-held tells content parts f a next =
    held-resident tells content parts a f
    ∙ (can-parts (without_tickets parts.events) f (next-can parts.header (without_tickets parts.events) f next)).resident

pub begun-turn : {T : Type 0} (tells : Bool) (content : T → List ℕ) (old ready new : PartsState T) (actor : Actor) (f : FileId) (block : FileOutcome) (place : ℕ) →
    next_save old.header (without_tickets old.events) ≡ Some f → held f old.workers ≡ Some block → place ≡ length ready.events →
    IsReady tells content old ready → Settled actor (with_begun actor f ready) new →
    Begun (state_of old) (state_of new) actor (Some (record { actor = actor; place = place; block = block }))
begun-turn {T} tells content old ready new actor f block place next is at r s =
    let file : block.file ≡ f = held-file old f block is in (
      next ∙ ap Some (sym file),
      ap (λ (g : FileId). held g old.workers) file ∙ is,
      refl,
      at ∙ ap length r.events,
      subst (λ (events : List (Event T)). Turned actor (state_of old) events (as_held (state_of old)) (state_of new))
          (λ i. record { actor = actor; act = Save (sym file i) } ∷ r.events i)
          (turned actor old (with_begun actor f ready) new (as_held (state_of old)) r.header (λ g. ap (held g) r.workers) s),
    )
