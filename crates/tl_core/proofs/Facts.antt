-- What callers may know of every cluster.
use Rattle.std.proofs.Common.{◌≡◌, ℕ, Bool, true, List, Option, Some, None, is_some, option_map, refl, sym, ap, ◌∙◌}
use Rattle.tl_types.specs.Block.{FileOutcome}
use Rattle.tl_types.specs.Outcome.{outcome_size, digest_of}
use Rattle.tl_types.specs.declared.file_id.FileId.{FileId}
use Rattle.tl_model.specs.declared.event.Event.{Event}
use Rattle.tl_model.specs.declared.header.Header.{Header}
use Rattle.tl_model.specs.Past.{events_with, without_tickets}
use Rattle.tl_model.specs.Residency.{SavedAs, is_resident, saved_as}
use Rattle.tl_model.specs.Values.{value}
use Rattle.tl_core.specs.declared.resident.Resident.{Resident}
use Rattle.tl_core.specs.Residents.{Residents, found, held, block_of}
use Rattle.tl_core.specs.Puts.{KeptPut, kept_put, as_saved}
use Rattle.tl_core.specs.State.{Stands, IsHeld}
use Rattle.tl_core.proofs.Held.{found-is}
use Rattle.tl_core.proofs.Looking.{resident-found}

some-block : (o : Option Resident) → is_some (option_map block_of o) ≡ is_some o
some-block None = refl
some-block (Some r) = refl

pub held-resident : {T : Type 0} (tells : Bool) (content : T → List ℕ) (header : Header) (events : List (Event T)) (residents : Residents) (spare : ℕ) →
    Stands tells content header events residents spare → (f : FileId) → is_some (held f residents) ≡ is_resident (without_tickets events) f
held-resident tells content header events residents spare s f =
    some-block (found f residents) ∙ sym (resident-found tells content header events residents spare f (found f residents) s refl)

fact_of : {T : Type 0} (tells : Bool) (content : T → List ℕ) (header : Header) (events : List (Event T)) (residents : Residents) (spare : ℕ)
    (f : FileId) (block : FileOutcome) (o : Option Resident) → Stands tells content header events residents spare → found f residents ≡ o → option_map block_of o ≡ Some block →
    (block.file ≡ f) × (tells ≡ true → block.outcome ≡ value (events_with content events) f)
fact_of tells content header events residents spare f block None s e is = absurd (cc)
fact_of tells content header events residents spare f block (Some r) s e is =
    let known = found-is (IsHeld tells content events) f residents r s.blocks e in
    let same : r.block ≡ block = cc in (
      ap (λ (b : FileOutcome). b.file) (sym same) ∙ known.1,
      λ tell. ap (λ (b : FileOutcome). b.outcome) (sym same) ∙ known.0.1.2 tell ∙ ap (value (events_with content events)) known.1,
    )

pub held-fact : {T : Type 0} (tells : Bool) (content : T → List ℕ) (header : Header) (events : List (Event T)) (residents : Residents) (spare : ℕ) →
    Stands tells content header events residents spare → (f : FileId) (block : FileOutcome) → held f residents ≡ Some block →
    (block.file ≡ f) × (tells ≡ true → block.outcome ≡ value (events_with content events) f)
held-fact tells content header events residents spare s f block is = fact_of tells content header events residents spare f block (found f residents) s refl is

saved-of : {T : Type 0} (tells : Bool) (content : T → List ℕ) (header : Header) (events : List (Event T)) (residents : Residents) (spare : ℕ)
    (f : FileId) (known : SavedAs) (o : Option (KeptPut T)) → Stands tells content header events residents spare → kept_put events f ≡ o → option_map as_saved o ≡ Some known →
    tells ≡ true → (known.size ≡ outcome_size (value (events_with content events) f)) × (known.digest.0 ≡ digest_of (value (events_with content events) f))
saved-of tells content header events residents spare f known None s e is tell = absurd (cc)
saved-of tells content header events residents spare f known (Some put) s e is tell =
    let same : as_saved put ≡ known = cc in
    let holds = (s.puts f put e).1 in
    let whole = (s.whole f put e).1 tell in (
      ap (λ (k : SavedAs). k.size) (sym same) ∙ sym whole.0 ∙ ap outcome_size (sym holds),
      ap (λ (k : SavedAs). k.digest.0) (sym same) ∙ sym whole.1 ∙ ap digest_of (sym holds),
    )

-- what is saved of a file stands for what it holds
pub saved-fact : {T : Type 0} (tells : Bool) (content : T → List ℕ) (header : Header) (events : List (Event T)) (residents : Residents) (spare : ℕ) →
    Stands tells content header events residents spare → (f : FileId) (known : SavedAs) → saved_as (without_tickets events) f ≡ Some known →
    tells ≡ true → (known.size ≡ outcome_size (value (events_with content events) f)) × (known.digest.0 ≡ digest_of (value (events_with content events) f))
saved-fact tells content header events residents spare s f known is =
    saved-of tells content header events residents spare f known (kept_put events f) s refl (sym (s.saved f) ∙ is)
