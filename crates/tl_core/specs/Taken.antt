-- A job that is taken up, with what stands for its inputs.
use Rattle.std.specs.Prelude.{◌≡◌, ℕ, Bool, true, false, ◌||◌, List, [], ◌∷◌, length, Option, Some, None, is_some}
use Rattle.std.specs.List.{AllByRecursion}
use Rattle.tl_types.specs.declared.actor.Actor.{Actor}
use Rattle.tl_types.specs.declared.file_id.FileId.{FileId}
use Rattle.tl_types.specs.declared.worker_id.WorkerId.{WorkerId}
use Rattle.tl_model.specs.declared.event.Act.TheVariants.{Claim}
use Rattle.tl_model.specs.declared.event.Event.{Event}
use Rattle.tl_model.specs.declared.header.Header.{Header}
use Rattle.tl_model.specs.declared.record.Record.TheVariants as kind
use Rattle.tl_model.specs.Past.{without_tickets}
use Rattle.tl_model.specs.History.{record_at}
use Rattle.tl_model.specs.Residency.{is_available, is_resident}
use Rattle.tl_model.specs.Plan.{next}
use Rattle.tl_core.specs.declared.feeds.Taken.{Taken}
use Rattle.tl_core.specs.declared.work.Feed.{Feed}
use Rattle.tl_core.specs.declared.work.Feed.TheVariants.{Have, Kept}
use Rattle.tl_core.specs.declared.work.Work.{Work}
use Rattle.tl_core.specs.Residents.{Residents, found, held}
use Rattle.tl_core.specs.Puts.{KeptPut, kept_put, IsCopy}
use Rattle.tl_core.specs.State.{State}
use Rattle.tl_core.specs.Answers.{past_of, with_event, IsSavedOf}
use Rattle.tl_core.specs.Claims.{incarnation}

-- what is held of a file, or else the put that made it
abbrev pub IsFedBy : {T : Type 0} → (T → List ℕ) → List (Event T) → Residents → FileId → Feed T → Type 0
IsFedBy content events residents f (Have block) = held f residents ≡ Some block
IsFedBy {T} content events residents f (Kept g saved) =
    (g ≡ f) × (found f residents ≡ None) × ((put : KeptPut T) × (kept_put events f ≡ Some put) × IsCopy content put saved)

-- one for each file, in order
abbrev pub AreFedBy : {T : Type 0} → (T → List ℕ) → List (Event T) → Residents → List FileId → List (Feed T) → Type 0
AreFedBy content events residents [] [] = Unit {0}
AreFedBy content events residents (f ∷ fs) (feed ∷ feeds) = IsFedBy content events residents f feed × AreFedBy content events residents fs feeds
AreFedBy content events residents _ _ = ⊥

-- what is available is held, or a put made it
abbrev pub Supplies : {T : Type 0} → List (Event T) → Residents → Type 0
Supplies events residents = (f : FileId) → is_available (without_tickets events) f ≡ true → (is_some (found f residents) || is_some (kept_put events f)) ≡ true

-- each file is held, or a put made it
abbrev pub AreSupplied : {T : Type 0} → List (Event T) → Residents → List FileId → Type 0
AreSupplied events residents files = AllByRecursion (λ f. (is_some (found f residents) || is_some (kept_put events f)) ≡ true) files

-- the record of this number is this job, and there is one feed for each input
abbrev pub IsTaken : {T : Type 0} → (T → List ℕ) → List (Event T) → Residents → Taken T → Type 0
IsTaken content events residents taken =
    (prio : ℕ) × (inputs : List FileId) × (outputs : ℕ)
    × (record_at (without_tickets events) taken.rec ≡ Some (kind.Job taken.rec taken.core prio inputs outputs))
    × AreFedBy content events residents inputs taken.inputs.items

-- the next job with what stands for its inputs, or none where none is next
abbrev pub TakesUp : {T : Type 0} → (T → List ℕ) → Header → List (Event T) → Residents → Option (Taken T) → Type 0
TakesUp content header events residents None = next header.order (without_tickets events) ≡ None
TakesUp content header events residents (Some taken) =
    (next header.order (without_tickets events) ≡ Some taken.rec)
    × IsTaken content events residents taken

-- the block that is held of an input, or else what is saved of it
abbrev pub IsFed : {T : Type 0} → Bool → (T → List ℕ) → State T → FileId → Feed T → Type 0
IsFed tells content state f (Have block) = (is_resident (past_of state) f ≡ true) × (held f state.residents ≡ Some block)
IsFed tells content state f (Kept g saved) = (g ≡ f) × (is_resident (past_of state) f ≡ false) × IsSavedOf tells content state f saved

abbrev pub AreFed : {T : Type 0} → Bool → (T → List ℕ) → State T → List FileId → List (Feed T) → Type 0
AreFed tells content state [] [] = Unit {0}
AreFed tells content state (f ∷ fs) (feed ∷ feeds) = IsFed tells content state f feed × AreFed tells content state fs feeds
AreFed tells content state _ _ = ⊥

-- the work is the record's job: its program keeps the kind rules for the record's numbers of inputs and outputs, and there
-- is one feed for each input
abbrev pub IsJobOf : {T : Type 0} → Bool → (T → List ℕ) → State T → Work T → Type 0
IsJobOf tells content state work =
    (prio : ℕ) × (inputs : List FileId) × (outputs : ℕ)
    × (record_at (past_of state) work.rec ≡ Some (kind.Job work.rec work.core prio inputs outputs))
    × (work.core.program.inputs ≡ length inputs)
    × (work.core.program.outputs ≡ outputs)
    × AreFed tells content state inputs work.inputs.items

-- a claim takes up the record that is next, if one is
abbrev pub Claimed : {T : Type 0} → Bool → (T → List ℕ) → State T → State T → Actor → WorkerId → Option (Work T) → Type 0
Claimed tells content old new actor worker None = (next old.header.order (past_of old) ≡ None) × (new ≡ old)
Claimed tells content old new actor worker (Some work) =
    (next old.header.order (past_of old) ≡ Some work.rec)
    × (new ≡ with_event actor (Claim worker work.rec) old)
    × (work.actor ≡ actor)
    × (work.worker ≡ worker)
    × (work.incarnation ≡ incarnation old.events worker)
    × (work.place ≡ length old.events)
    × IsJobOf tells content old work
