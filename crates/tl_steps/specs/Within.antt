-- What a journal whose events are permitted can speak of.
use Rattle.std.specs.Prelude.{◌≡◌, ◌<◌, true, length, Some, is_some}
use Rattle.std.specs.List.{AllByRecursion}
use Rattle.tl_types.specs.declared.actor.Actor.{Actor}
use Rattle.tl_types.specs.declared.file_id.FileId.{FileId}
use Rattle.tl_types.specs.declared.record_id.RecordId.{RecordId}
use Rattle.tl_model.specs.Past.{Past}
use Rattle.tl_model.specs.History.{records}
use Rattle.tl_model.specs.Actors.{OpenClaim, open_claim, open_save}
use Rattle.tl_model.specs.Residency.{place, reads, saved_as, was_done}
use Rattle.tl_laws.specs.Numbers.{Numbered}
use Rattle.tl_laws.specs.Made.{HasMadeInputs, IsOutputOf}

-- what is known of each journal whose events are permitted: all that it speaks of was accepted
pub record IsWithin (past : Past) : Type 0 where
  pub numbered : Numbered (records past)
  pub inputs : AllByRecursion (HasMadeInputs (records past)) (records past)
  pub placed : (f : FileId) → is_some (place past f) ≡ true → IsOutputOf (records past) f
  pub saved : (f : FileId) → is_some (saved_as past f) ≡ true → IsOutputOf (records past) f
  pub saves : (actor : Actor) (f : FileId) → open_save past actor ≡ Some f → IsOutputOf (records past) f
  pub claims : (actor : Actor) (claim : OpenClaim) → open_claim past actor ≡ Some claim → claim.made.0 < length (records past)
  pub done : (made : RecordId) → was_done past made ≡ true → made.0 < length (records past)
  pub unread : (f : FileId) → (IsOutputOf (records past) f → ⊥) → reads past f ≡ 0
