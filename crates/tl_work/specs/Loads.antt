-- What is loaded from the checkpoint store.
use Rattle.std.specs.Prelude.{◌≡◌, ◌⊎◌, ◌≤◌, ℕ, Bool, true, List, [], ◌∷◌}
use Rattle.tl_types.specs.declared.outcome.Outcome.{Outcome}
use Rattle.tl_types.specs.declared.outcome.Outcome.TheVariants.{Value, Fault}
use Rattle.tl_model.specs.declared.answer.Damage.{Damage}
use Rattle.tl_model.specs.declared.saved.Saved.{Saved}
use Rattle.tl_model.specs.declared.saved.Saved.TheVariants.{Held, Failed}
use Rattle.tl_vault.specs.Load.{Fits, IsDamage, IsValueAnd, kept_len}
use Rattle.tl_cluster.specs.declared.work.Feed.{Feed}
use Rattle.tl_cluster.specs.declared.work.Feed.TheVariants.{Have, Kept}
use Rattle.tl_work.specs.declared.error.WorkError.{WorkError}
use Rattle.tl_work.specs.declared.error.WorkError.TheVariants.{Damaged}

-- ---- a saved value

-- a saved value is no longer than a file may be
abbrev pub IsLoadable : {T : Type 0} → Saved T → Type 0
IsLoadable saved = kept_len saved ≤ 1048576

-- it has the kept length and digest, and where the ticket tells, its bytes; a fault is the kept one
abbrev pub IsLoadOf : {T : Type 0} → Bool → (T → List ℕ) → Saved T → Outcome → Type 0
IsLoadOf tells content (Held ticket len digest) outcome =
    IsValueAnd outcome (λ bytes. Fits len digest bytes × (tells ≡ true → bytes ≡ content ticket))
IsLoadOf tells content (Failed code) outcome = outcome ≡ Fault code

-- it had another length or digest than the kept ones; never where the ticket tells bytes that have
-- these
abbrev pub IsDamageOf : {T : Type 0} → Bool → (T → List ℕ) → Saved T → Damage → Type 0
IsDamageOf tells content (Held ticket len digest) damage =
    (bytes : List ℕ) × IsDamage len digest bytes damage
    × (tells ≡ true → Fits len digest (content ticket) → ⊥)
IsDamageOf tells content (Failed code) damage = ⊥

-- where something was damaged this is so of it
abbrev pub WhereDamaged : (Damage → Type 0) → WorkError → Type 0
WhereDamaged is_so (Damaged damage) = is_so damage
WhereDamaged is_so _ = Unit {0}

-- ---- the inputs of a job

abbrev pub IsLoadableFeed : {T : Type 0} → Feed T → Type 0
IsLoadableFeed (Have block) = Unit {0}
IsLoadableFeed (Kept f saved) = IsLoadable saved

abbrev pub saved_outcome : {T : Type 0} → (T → List ℕ) → Saved T → Outcome
saved_outcome content (Held ticket len digest) = Value (content ticket)
saved_outcome content (Failed code) = Fault code

-- what an input holds, where its ticket tells
abbrev pub fed_outcome : {T : Type 0} → (T → List ℕ) → Feed T → Outcome
fed_outcome content (Have block) = block.outcome
fed_outcome content (Kept f saved) = saved_outcome content saved

abbrev pub IsFeedDamage : {T : Type 0} → Bool → (T → List ℕ) → Damage → Feed T → Type 0
IsFeedDamage tells content damage (Have block) = ⊥
IsFeedDamage tells content damage (Kept f saved) = IsDamageOf tells content saved damage

-- one of the inputs was damaged so
abbrev pub IsDamageAmong : {T : Type 0} → Bool → (T → List ℕ) → List (Feed T) → Damage → Type 0
IsDamageAmong tells content [] damage = ⊥
IsDamageAmong tells content (feed ∷ feeds) damage =
    IsFeedDamage tells content damage feed ⊎ IsDamageAmong tells content feeds damage
