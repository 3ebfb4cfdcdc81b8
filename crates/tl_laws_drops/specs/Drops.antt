-- A past with a drop more, and what of it the drop leaves as it was.
use Rattle.std.specs.Prelude.{◌≡◌, Bool, true, ◌∷◌, ℕ, List, [], slice_get, Some}
use Rattle.std.specs.List.{list_any}
use Rattle.tl_types.specs.Same.{file_same}
use Rattle.tl_types.specs.declared.actor.Actor.{Actor}
use Rattle.tl_types.specs.declared.file_id.FileId.{FileId}
use Rattle.tl_types.specs.declared.worker_id.WorkerId.{WorkerId}
use Rattle.tl_model.specs.declared.event.Act.TheVariants.{Drop}
use Rattle.tl_model.specs.declared.header.Header.{Header}
use Rattle.tl_model.specs.Past.{Past, Told}
use Rattle.tl_model.specs.Rules.{can_drop, is_due}
use Rattle.tl_model.specs.declared.record.Record.{Record}
use Rattle.tl_model.specs.History.{id_of}
use Rattle.tl_model.specs.declared.event.Event.{Event}

-- the past after one drop more
abbrev pub after_drop : Actor → WorkerId → FileId → Past → Past
after_drop actor worker f past = record { actor = actor; act = Drop worker f } ∷ past

-- records of one number are one
abbrev pub HasOneOfEach : List Record → Type 0
HasOneOfEach rs = (i j : ℕ) (r s : Record) → slice_get rs i ≡ Some r → slice_get rs j ≡ Some s → id_of r ≡ id_of s → r ≡ s

-- the past after these drops, the newest of them first
abbrev pub drops_by : Actor → List (WorkerId × FileId) → Past → Past
drops_by actor [] past = past
drops_by actor (d ∷ ds) past = after_drop actor d.0 d.1 (drops_by actor ds past)

-- each file may be dropped from its worker after the drops before it
abbrev pub MayDrop : Actor → List (WorkerId × FileId) → Past → Type 0
MayDrop actor [] past = Unit {0}
MayDrop actor (d ∷ ds) past = (can_drop (drops_by actor ds past) d.0 d.1 ≡ true) × MayDrop actor ds past

-- the file is one of those that are dropped
abbrev pub is_among : FileId → List (WorkerId × FileId) → Bool
is_among g ds = list_any (λ d. file_same g d.1) ds

-- the events after these drops, the newest of them first
abbrev pub with_drops : {T : Type 0} → Actor → List (WorkerId × FileId) → List (Event T) → List (Event T)
with_drops actor [] events = events
with_drops actor (d ∷ ds) events = record { actor = actor; act = Drop d.0 d.1 } ∷ with_drops actor ds events

-- each drop is the one that is due after those before it
abbrev pub AreDue : Header → Actor → List (WorkerId × FileId) → Told → Type 0
AreDue header actor [] events = Unit {0}
AreDue header actor (d ∷ ds) events =
    (is_due header (with_drops actor ds events) d.0 d.1 ≡ true) × AreDue header actor ds events

-- some drops of the actor came after these events, and nothing else
abbrev pub DropsFollow : {T : Type 0} → Actor → List (Event T) → List (Event T) → Type 0
DropsFollow actor before after = (ds : List (WorkerId × FileId)) × (after ≡ with_drops actor ds before)
