-- A record that is claimed and done, with the drops that follow each.
use Rattle.std.specs.Prelude.{◌∷◌, List}
use Rattle.tl_types.specs.declared.actor.Actor.{Actor}
use Rattle.tl_types.specs.declared.file_id.FileId.{FileId}
use Rattle.tl_types.specs.declared.record_id.RecordId.{RecordId}
use Rattle.tl_types.specs.declared.worker_id.WorkerId.{WorkerId}
use Rattle.tl_model.specs.declared.event.Act.TheVariants.{Claim, Done}
use Rattle.tl_model.specs.declared.event.Event.{Event}
use Rattle.tl_model.specs.Past.{Past}
use Rattle.tl_laws_drops.specs.Drops.{DropsFollow, drops_by}

-- one event more: the record was claimed
abbrev pub with_claim : {T : Type 0} →
    Actor → WorkerId → RecordId → List (Event T) → List (Event T)
with_claim actor worker made events = record { actor = actor; act = Claim worker made } ∷ events

-- one event more: the record was done
abbrev pub with_done : {T : Type 0} →
    Actor → WorkerId → RecordId → List (Event T) → List (Event T)
with_done actor worker made events = record { actor = actor; act = Done worker made } ∷ events

-- the past after a claim, and the drops that follow it
abbrev pub after_claim : Actor → WorkerId → RecordId → List (WorkerId × FileId) → Past → Past
after_claim actor worker made drops past = drops_by actor drops (with_claim actor worker made past)

-- the record was claimed and then done; after each came drops of the actor, and nothing else
pub record IsRun {T : Type 0} (actor : Actor) (worker : WorkerId) (made : RecordId)
    (before after : List (Event T)) : Type 0 where
  pub claimed : List (Event T)
  pub claim : DropsFollow actor (with_claim actor worker made before) claimed
  pub done : DropsFollow actor (with_done actor worker made claimed) after
