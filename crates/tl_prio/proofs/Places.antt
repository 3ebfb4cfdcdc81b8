-- Records stand at the places of their numbers.
use Rattle.std.proofs.Common.{◌≡◌, ◌∙◌, arith, ℕ, zero, suc, ◌+◌, ◌<◌, Bool, true, false, ◌&&◌, ◌||◌, if◌then◌else◌, List, [], ◌∷◌, filter, slice_get, Some, refl, ap}
use Rattle.std.specs.List.{list_any}
use Rattle.std.proofs.lemmas.Bool.Decides.{Decides-eqb}
use Rattle.tl_types.specs.declared.record_id.RecordId.{RecordId}
use Rattle.tl_model.specs.declared.record.Record.{Record}
use Rattle.tl_model.specs.History.{id_of}
use Rattle.tl_model.specs.Plan.{has_id}
use Rattle.tl_laws.specs.Numbers.{Numbered}
use Rattle.tl_laws.proofs.Ready.{after}
use Rattle.tl_steps.proofs.Files.{not-true}

-- the records are numbered from n on
abbrev pub StartsAt : ℕ → List Record → Type 0
StartsAt n [] = Unit {0}
StartsAt n (r ∷ rs) = ((id_of r).0 ≡ n) × StartsAt (suc n) rs

starts-from : (n : ℕ) (rs : List Record) → ((i : ℕ) (r : Record) → slice_get rs i ≡ Some r → (id_of r).0 ≡ n + i) → StartsAt n rs
starts-from n [] h = tt
starts-from n (r ∷ rs) h = (
  (let e : (id_of r).0 ≡ n + 0 = h 0 r refl in omega arith),
  starts-from (suc n) rs (λ i x at. let e : (id_of x).0 ≡ n + suc i = h (suc i) x at in omega arith),
)

pub starts : (rs : List Record) → Numbered rs → StartsAt 0 rs
starts rs numbered = starts-from 0 rs (λ i r at. let e : (id_of r).0 ≡ i = ap (λ (id : RecordId). id.0) (numbered i r at) in omega arith)

-- ---- what comes at a place and after it

-- the list from a place on
abbrev pub from_place : List Record → ℕ → List Record
from_place rs zero = rs
from_place rs (suc k) = after rs k

pub place-of : (k : ℕ) (rs : List Record) (r : Record) (later : List Record) → from_place rs k ≡ r ∷ later → (slice_get rs k ≡ Some r) × (after rs k ≡ later)
place-of zero [] r later at = absurd (cc)
place-of zero (x ∷ rs) r later at = (let same : x ≡ r = cc in ap Some same, let same : rs ≡ later = cc in same)
place-of (suc k) [] r later at = absurd (cc)
place-of (suc zero) (x ∷ rs) r later at = place-of zero rs r later at
place-of (suc (suc k)) (x ∷ rs) r later at = place-of (suc k) rs r later at

-- ---- whether one of a number passes a test

same-number : (made : RecordId) (r : Record) → made.0 ≡ (id_of r).0 → has_id made r ≡ true
same-number made r e = (Decides-eqb made.0 (id_of r).0).1 e

other-number : (made : RecordId) (r : Record) → (made.0 ≡ (id_of r).0 → ⊥) → has_id made r ≡ false
other-number made r differs = not-true (has_id made r) (λ t. differs ((Decides-eqb made.0 (id_of r).0).0 t))

any-if : (made : RecordId) (r : Record) (rs : List Record) (b : Bool) → list_any (has_id made) (if b then r ∷ rs else rs) ≡ ((b && has_id made r) || list_any (has_id made) rs)
any-if made r rs true = refl
any-if made r rs false = refl

nothing-or : (a b : Bool) → ((a && false) || b) ≡ b
nothing-or true b = refl
nothing-or false b = refl

or-nothing : (a b : Bool) → b ≡ false → ((a && true) || b) ≡ a
or-nothing true b h = refl
or-nothing false b h = h

none-later : (p : Record → Bool) (made : RecordId) (n : ℕ) (rs : List Record) → StartsAt n rs → made.0 < n → list_any (has_id made) (filter p rs) ≡ false
none-later p made n [] from less = refl
none-later p made n (r ∷ rs) from less =
    let id : (id_of r).0 ≡ n = from.0 in
    any-if made r (filter p rs) (p r)
    ∙ ap (λ b. (p r && b) || list_any (has_id made) (filter p rs)) (other-number made r (λ e. omega arith))
    ∙ nothing-or (p r) (list_any (has_id made) (filter p rs))
    ∙ none-later p made (suc n) rs from.1 (omega arith)

pub any-at : (p : Record → Bool) (made : RecordId) (n : ℕ) (rs : List Record) (k : ℕ) (r : Record) → StartsAt n rs → made.0 ≡ n + k → slice_get rs k ≡ Some r →
    list_any (has_id made) (filter p rs) ≡ p r
any-at p made n [] k r from place at = absurd (cc)
any-at p made n (x ∷ rs) zero r from place at =
    let id : (id_of x).0 ≡ n = from.0 in
    let same : x ≡ r = cc in
    any-if made x (filter p rs) (p x)
    ∙ ap (λ b. (p x && b) || list_any (has_id made) (filter p rs)) (same-number made x (omega arith))
    ∙ or-nothing (p x) (list_any (has_id made) (filter p rs)) (none-later p made (suc n) rs from.1 (omega arith))
    ∙ ap p same
any-at p made n (x ∷ rs) (suc k) r from place at =
    let id : (id_of x).0 ≡ n = from.0 in
    any-if made x (filter p rs) (p x)
    ∙ ap (λ b. (p x && b) || list_any (has_id made) (filter p rs)) (other-number made x (λ e. omega arith))
    ∙ nothing-or (p x) (list_any (has_id made) (filter p rs))
    ∙ any-at p made (suc n) rs k r from.1 (omega arith) at
