-- How a reader's error names the place.
use Rattle.std.specs.Prelude.{◌≡◌, ℕ, ◌-◌, ◌≤◌, List, drop, Result, Ok, Err}
use Rattle.tl_text.specs.declared.error.TextError.{TextError}
use Rattle.tl_text.specs.declared.error.TextError.TheVariants.{Bad, NoMemory}
use Rattle.tl_text.specs.declared.error.TextKind.{TextKind}
use Rattle.tl_text.specs.declared.error.TextKind.TheVariants.{BadNumber, BadQuote, BadPath, BadDigest}
use Rattle.tl_text.specs.Place.{IsFirstBad}

abbrev pub kind_number : TextKind → ℕ
kind_number BadNumber = 1
kind_number BadQuote = 2
kind_number BadPath = 3
kind_number BadDigest = 4

-- it is this kind of refusal, at the first byte from at on that no spelling allows
abbrev pub IsRefusal : {V : Type 0} → (List ℕ → V → List ℕ → Type 0) → TextKind → List ℕ → ℕ → TextError → Type 0
IsRefusal R kind text at (Bad place given) = (given ≡ kind) × (at ≤ place) × IsFirstBad R (drop at text) (place - at)
IsRefusal R kind text at NoMemory = ⊥

-- the same, unless memory ran out
abbrev pub IsRefusalOrNoMemory : {V : Type 0} → (List ℕ → V → List ℕ → Type 0) → TextKind → List ℕ → ℕ → TextError → Type 0
IsRefusalOrNoMemory R kind text at (Bad place given) = IsRefusal R kind text at (Bad place given)
IsRefusalOrNoMemory R kind text at NoMemory = Unit {0}

-- the value, as it is viewed, and the place after it are read, unless memory ran out
abbrev pub Reads : {X V : Type 0} → (X → V) → Result (X × ℕ) TextError → V → ℕ → Type 0
Reads view (Ok r) v place = (view r.0 ≡ v) × (r.1 ≡ place)
Reads view (Err (Bad at kind)) v place = ⊥
Reads view (Err NoMemory) v place = Unit {0}
