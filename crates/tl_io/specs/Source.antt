-- What a read does. `left` and `left'` are the bytes left before and after it, where told, and `into`
-- is the buffer after it.
use Rattle.std.specs.Prelude.{◌≡◌, ◌≤◌, ◌↔◌, ℕ, List, [], length, take, Option, Result, MatchResult, IfSome}
use Rattle.std.specs.Io.KnownBytes.{Consumes, Keeps}
use Rattle.tl_io.specs.Counts.{more}

-- the next n bytes stand at the front of `into` and are no longer left; n is 0 exactly at the end
pub record Gives (left left' : Option (List ℕ)) (n : ℕ) (into : List ℕ) : Type 0 where
  pub fits : n ≤ length into
  pub bytes : Consumes left left' (take n into)
  pub end : IfSome left (λ xs. (n ≡ 0) ↔ (xs ≡ []))

-- at `Ok(n)` it gives n bytes, and at `Err` none
abbrev pub Reads : {E : Type 0} → Option (List ℕ) → Option (List ℕ) → Result ℕ E → List ℕ → Type 0
Reads left left' result into = MatchResult result (λ n. Gives left left' n into) (λ _. Keeps left left')

-- the number of bytes given grows by those that the read gave
abbrev pub CountsGiven : {E : Type 0} → ℕ → ℕ → Result ℕ E → Type 0
CountsGiven given given' result = MatchResult result (λ n. given' ≡ more given n) (λ _. given' ≡ given)
