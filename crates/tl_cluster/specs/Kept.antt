-- What the checkpoint store keeps of a file.
use Rattle.std.specs.Prelude.{◌≡◌, ◌≤◌, ℕ, Bool, true, List, length, Option, Some, None}
use Rattle.sha2.specs.Sha256.{sha256}
use Rattle.tl_types.specs.Outcome.{digest_of}
use Rattle.tl_types.specs.declared.outcome.Outcome.{Outcome}
use Rattle.tl_types.specs.declared.outcome.Outcome.TheVariants.{Value, Fault}
use Rattle.tl_model.specs.declared.saved.Saved.{Saved}
use Rattle.tl_model.specs.declared.saved.Saved.TheVariants.{Held, Failed}
use Rattle.tl_model.specs.Residency.{SavedAs}

-- A saved value was saved with this size and this digest, and is no longer than a file may be.
-- Where it tells, it is for this outcome, and its bytes have this size and this digest.
abbrev pub IsSavedFor : {T : Type 0} → Bool → (T → List ℕ) → SavedAs → Outcome → Saved T → Type 0
IsSavedFor tells content known outcome (Held ticket len digest) =
    (known ≡ record { size = len; digest = digest }) × (len ≤ 1048576)
    × (tells ≡ true → (outcome ≡ Value (content ticket))
    × (length (content ticket) ≡ len) × (sha256 (content ticket) ≡ digest.0))
IsSavedFor tells content known outcome (Failed code) =
    (known ≡ record { size = 0; digest = record { 0 = digest_of (Fault code) } })
    × (tells ≡ true → outcome ≡ Fault code)

-- what is kept of a file is for what it was saved as, and of an unsaved file nothing is kept
abbrev pub IsKept : {T : Type 0} → Bool → (T → List ℕ) → Outcome → Option SavedAs →
    Option (Saved T) → Type 0
IsKept tells content outcome (Some known) (Some saved) =
    IsSavedFor tells content known outcome saved
IsKept tells content outcome None None = Unit {0}
IsKept tells content outcome _ _ = ⊥

-- a copy: a ticket for the same bytes, with their length and digest, or the same fault
abbrev pub IsCopyOf : {T : Type 0} → (T → List ℕ) → Saved T → Saved T → Type 0
IsCopyOf content (Held ticket len digest) (Held ticket' len' digest') =
    (content ticket' ≡ content ticket) × (len' ≡ len) × (digest' ≡ digest)
IsCopyOf content (Failed code) (Failed code') = code' ≡ code
IsCopyOf content _ _ = ⊥
