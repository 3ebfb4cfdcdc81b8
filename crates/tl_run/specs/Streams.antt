-- What is read of a source and written to a sink.
use Rattle.std.specs.Prelude.{ℕ, ◌≡◌, ◌+◌, ◌-◌, ◌^◌, ◌≤◌, ◌<◌, min, List, [], ◌++◌, length, take, Option, IfSome}
use Rattle.std.specs.Io.KnownBytes.{Consumes, Appends}

-- a count rose by n, or stands at its last value
abbrev pub RisesBy : ℕ → ℕ → ℕ → Type 0
RisesBy before now n = min (before + n) (2 ^ 64 - 1) ≤ now

-- the source gave n bytes, which now end the text
abbrev pub GivesPiece : Option (List ℕ) → Option (List ℕ) → List ℕ → List ℕ → ℕ → Type 0
GivesPiece left left' text text' n = (piece : List ℕ) × (length piece ≡ n) × (text' ≡ text ++ piece) × Consumes left left' piece

-- where told, no byte is left
abbrev pub NoneLeft : Option (List ℕ) → Type 0
NoneLeft left = IfSome left (λ bytes. bytes ≡ [])

-- the source gave these bytes, which, where told, are all that it had
abbrev pub ReadsAll : Option (List ℕ) → Option (List ℕ) → List ℕ → Type 0
ReadsAll left left' text = Consumes left left' text × IfSome left (λ bytes. bytes ≡ text)

-- where told, more bytes than the limit were left
abbrev pub HasMore : ℕ → Option (List ℕ) → Type 0
HasMore limit left = IfSome left (λ bytes. limit < length bytes)

-- where told, the sink grew by a front of the text
abbrev pub WritesFront : Option (List ℕ) → Option (List ℕ) → List ℕ → Type 0
WritesFront held held' text = (n : ℕ) × Appends held held' (take n text)

-- of the text a front was written, and the rest is left
abbrev pub WritesUpTo : List ℕ → List ℕ → Option (List ℕ) → Option (List ℕ) → Type 0
WritesUpTo text rest held held' = (front : List ℕ) × (text ≡ front ++ rest) × Appends held held' front
