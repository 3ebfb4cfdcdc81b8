-- What a load answers for what is kept.
use Rattle.std.specs.Prelude.{◌≡◌, ℕ, List, length, Result, Err}
use Rattle.sha2.specs.Sha256.{sha256}
use Rattle.tl_types.specs.declared.digest.Digest.{Digest}
use Rattle.tl_types.specs.declared.outcome.Outcome.{Outcome}
use Rattle.tl_types.specs.declared.outcome.Outcome.TheVariants.{Value, Fault}
use Rattle.tl_model.specs.declared.answer.Damage.{Damage}
use Rattle.tl_model.specs.declared.saved.Saved.{Saved}
use Rattle.tl_model.specs.declared.saved.Saved.TheVariants.{Held, Failed}
use Rattle.tl_vault.specs.declared.loading.LoadError.{LoadError}
use Rattle.tl_vault.specs.declared.loading.LoadError.TheVariants.{Damaged}

-- the kept length, and 0 for a fault
abbrev pub kept_len : {T : Type 0} → Saved T → ℕ
kept_len (Held ticket len digest) = len
kept_len (Failed code) = 0

-- what holds where bytes are kept
abbrev pub IfHeld : {T : Type 0} → Saved T → (T → ℕ → Digest → Type 0) → Type 0
IfHeld (Held ticket len digest) p = p ticket len digest
IfHeld (Failed code) p = Unit {0}

-- what holds where a fault is kept
abbrev pub IfFailed : {T : Type 0} → Saved T → (ℕ → Type 0) → Type 0
IfFailed (Held ticket len digest) p = Unit {0}
IfFailed (Failed code) p = p code

-- the outcome is a value, of which p holds
abbrev pub IsValueAnd : Outcome → (List ℕ → Type 0) → Type 0
IsValueAnd (Value bytes) p = p bytes
IsValueAnd (Fault code) p = ⊥

-- what holds where the load is damaged
abbrev pub IfDamaged : Result Outcome LoadError → (Damage → Type 0) → Type 0
IfDamaged (Err (Damaged damage)) p = p damage
IfDamaged _ p = Unit {0}

-- the bytes have this length and digest
pub record Fits (len : ℕ) (digest : Digest) (bytes : List ℕ) : Type 0 where
  pub of_len : length bytes ≡ len
  pub of_digest : sha256 bytes ≡ digest.0

-- the damage tells the kept pair and that of the bytes, and the pairs differ
pub record IsDamage (len : ℕ) (digest : Digest) (bytes : List ℕ) (damage : Damage) : Type 0 where
  pub kept_len : damage.kept_len ≡ len
  pub kept : damage.kept ≡ digest
  pub got : Fits damage.got_len damage.got bytes
  pub differs : Fits len digest bytes → ⊥
