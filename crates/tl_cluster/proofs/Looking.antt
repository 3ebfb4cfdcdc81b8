-- What a look finds in the checkpoint store.
use Rattle.std.proofs.Common.{◌≡◌, ◌≤◌, ℕ, Bool, true, false, ◌||◌, List, length, Option, Some, None, is_some, refl, sym, ap, ◌∙◌, subst}
use Rattle.sha2.specs.Sha256.{sha256}
use Rattle.tl_types.specs.declared.digest.Digest.{Digest}
use Rattle.tl_types.specs.declared.file_id.FileId.{FileId}
use Rattle.tl_types.specs.declared.outcome.Outcome.{Outcome}
use Rattle.tl_types.specs.declared.outcome.Outcome.TheVariants.{Value, Fault}
use Rattle.tl_types.specs.Outcome.{digest_of, outcome_size}
use Rattle.tl_model.specs.declared.event.Event.{Event}
use Rattle.tl_model.specs.declared.saved.Saved.{Saved}
use Rattle.tl_model.specs.declared.saved.Saved.TheVariants.{Held, Failed}
use Rattle.tl_model.specs.Past.{events_with, without_tickets}
use Rattle.tl_model.specs.Residency.{SavedAs, is_resident, is_saved, saved_as}
use Rattle.tl_model.specs.Values.{value}
use Rattle.tl_cluster.specs.declared.look.Look.{Look}
use Rattle.tl_cluster.specs.declared.look.Look.TheVariants as looked
use Rattle.tl_cluster.specs.Kept.{IsCopyOf, IsKept, IsSavedFor}
use Rattle.tl_cluster.specs.Looks.{InStore, ShowsKept}
use Rattle.tl_cluster.specs.Stands.{Agrees, PartsState}
use Rattle.tl_vault.specs.Vault.{saved_of}

-- a copy is for what the copied is for
pub copy-saved : {T : Type 0} (tells : Bool) (content : T → List ℕ) (known : SavedAs) (outcome : Outcome) (saved copy : Saved T) →
    IsSavedFor tells content known outcome saved → IsCopyOf content saved copy → IsSavedFor tells content known outcome copy
copy-saved tells content known outcome (Held ticket len digest) (Held ticket' len' digest') for is = (
  for.0 ∙ (λ i. record { size = sym is.1 i; digest = sym is.2 i }),
  subst (λ (n : ℕ). n ≤ 1048576) (sym is.1) for.1,
  λ tell. (
    (for.2 tell).0 ∙ ap (λ (bytes : List ℕ). Value bytes) (sym is.0),
    ap length is.0 ∙ (for.2 tell).1 ∙ sym is.1,
    ap sha256 is.0 ∙ (for.2 tell).2 ∙ ap (λ (d : Digest). d.0) (sym is.2),
  ),
)
copy-saved tells content known outcome (Failed code) (Failed code') for is = (
  for.0 ∙ ap (λ (c : ℕ). record { size = 0; digest = record { 0 = digest_of (Fault c) } }) (sym is),
  λ tell. for.1 tell ∙ ap (λ (c : ℕ). Fault c) (sym is),
)
copy-saved tells content known outcome (Held ticket len digest) (Failed code) for is = absurd is
copy-saved tells content known outcome (Failed code) (Held ticket len digest) for is = absurd is

-- what is saved is kept, and the other way round
pub kept-some : {T : Type 0} (tells : Bool) (content : T → List ℕ) (outcome : Outcome) (o : Option SavedAs) (saved : Saved T) →
    IsKept tells content outcome o (Some saved) → (known : SavedAs) × (o ≡ Some known) × IsSavedFor tells content known outcome saved
kept-some tells content outcome (Some known) saved is = (known, refl, is)
kept-some tells content outcome None saved is = absurd is

pub kept-none : {T : Type 0} (tells : Bool) (content : T → List ℕ) (outcome : Outcome) (o : Option SavedAs) →
    IsKept {T = T} tells content outcome o None → o ≡ None
kept-none tells content outcome (Some known) is = absurd is
kept-none tells content outcome None is = refl

neither : (a b : Bool) → a ≡ false → b ≡ false → (a || b) ≡ false
neither true b h k = h
neither false b h k = k

pub in-store : {T : Type 0} (tells : Bool) (content : T → List ℕ) (events : List (Event T)) (f : FileId) (kept : Option (Saved T)) (look : Look T) →
    is_resident (without_tickets events) f ≡ false →
    IsKept tells content (value (events_with content events) f) (saved_as (without_tickets events) f) kept →
    ShowsKept content kept look → InStore tells content events f look
in-store tells content events f (Some saved) (looked.Saved copy) nowhere is shows =
    let known = kept-some tells content (value (events_with content events) f) (saved_as (without_tickets events) f) saved is in
    (known.0, known.1, copy-saved tells content known.0 (value (events_with content events) f) saved copy known.2 shows)
in-store tells content events f None looked.NotYet nowhere is shows =
    neither (is_resident (without_tickets events) f) (is_saved (without_tickets events) f) nowhere
    (ap (λ (o : Option SavedAs). is_some o) (kept-none tells content (value (events_with content events) f) (saved_as (without_tickets events) f) is))
in-store tells content events f (Some saved) (looked.Have block) nowhere is shows = absurd shows
in-store tells content events f (Some saved) looked.NotYet nowhere is shows = absurd shows
in-store tells content events f None (looked.Have block) nowhere is shows = absurd shows
in-store tells content events f None (looked.Saved copy) nowhere is shows = absurd shows

-- ---- what is saved stands for what the file holds

saved-for : {T : Type 0} (tells : Bool) (content : T → List ℕ) (known : SavedAs) (outcome : Outcome) (saved : Saved T) →
    IsSavedFor tells content known outcome saved → tells ≡ true → (known.size ≡ outcome_size outcome) × (known.digest.0 ≡ digest_of outcome)
saved-for tells content known outcome (Held ticket len digest) for tell =
    let told = for.2 tell in (
      ap (λ (k : SavedAs). k.size) for.0 ∙ sym told.1 ∙ ap outcome_size (sym told.0),
      ap (λ (k : SavedAs). k.digest.0) for.0 ∙ sym told.2 ∙ ap digest_of (sym told.0),
    )
saved-for tells content known outcome (Failed code) for tell =
    let told = for.1 tell in (
      ap (λ (k : SavedAs). k.size) for.0 ∙ ap outcome_size (sym told),
      ap (λ (k : SavedAs). k.digest.0) for.0 ∙ ap digest_of (sym told),
    )

kept-for : {T : Type 0} (tells : Bool) (content : T → List ℕ) (known : SavedAs) (outcome : Outcome) (o : Option SavedAs) (kept : Option (Saved T)) →
    o ≡ Some known → IsKept tells content outcome o kept → tells ≡ true → (known.size ≡ outcome_size outcome) × (known.digest.0 ≡ digest_of outcome)
kept-for tells content known outcome None kept is kept-is tell = absurd (cc)
kept-for tells content known outcome (Some other) None is kept-is tell = absurd kept-is
kept-for tells content known outcome (Some other) (Some saved) is kept-is tell =
    let same : other ≡ known = cc in
    saved-for tells content known outcome saved (subst (λ (k : SavedAs). IsSavedFor tells content k outcome saved) same kept-is) tell

pub saved-fact : {T : Type 0} (tells : Bool) (content : T → List ℕ) (parts : PartsState T) → Agrees tells content parts → (f : FileId) (known : SavedAs) →
    saved_as (without_tickets parts.events) f ≡ Some known → tells ≡ true →
    (known.size ≡ outcome_size (value (events_with content parts.events) f)) × (known.digest.0 ≡ digest_of (value (events_with content parts.events) f))
saved-fact tells content parts a f known is tell =
    kept-for tells content known (value (events_with content parts.events) f) (saved_as (without_tickets parts.events) f) (saved_of f parts.vault) is (a.kept f) tell
