-- What stands at the front of a text, and where a text stops being one that a spelling begins.
-- A form is a relation: R text v rest says that the text is the spelling of v, and then the rest.
use Rattle.std.specs.Prelude.{◌≡◌, ℕ, ◌+◌, ◌<◌, ◌≤◌, List, ◌++◌, length, take}

-- some text that begins with a spelling begins with these bytes
abbrev pub CanBegin : {V : Type 0} → (List ℕ → V → List ℕ → Type 0) → List ℕ → Type 0
CanBegin {V} R bytes = (more : List ℕ) × (v : V) × (rest : List ℕ) × R (bytes ++ more) v rest

-- no spelling stands at the front of the text, and the first byte that none allows is the one at
-- the place; where the place is the text's length the text ends too early
pub record IsFirstBad {V : Type 0} (R : List ℕ → V → List ℕ → Type 0) (text : List ℕ) (place : ℕ) : Type 0 where
  pub none : (v : V) (rest : List ℕ) → ¬ R text v rest
  pub within : place ≤ length text
  pub before : CanBegin R (take place text)
  pub there : place < length text → ¬ CanBegin R (take (place + 1) text)

-- a text has one reading: a spelling begins no other
abbrev pub HasOneReading : {V : Type 0} → (List ℕ → V → List ℕ → Type 0) → Type 0
HasOneReading {V} R = (text : List ℕ) (v w : V) (rest others : List ℕ) → R text v rest → R text w others → (v ≡ w) × (rest ≡ others)
