-- What a write does. `held` and `held'` are the bytes held before and after it, where told.
use Rattle.std.specs.Prelude.{◌<◌, ◌≤◌, ◌+◌, ◌++◌, ℕ, List, length, take, drop, Option, None, Some, Result, MatchResult}
use Rattle.std.proofs.Common.{◌∙◌, ap, append_assoc}
use Rattle.std.proofs.Math.Seq.{take-add}
use Rattle.std.specs.Io.KnownBytes.{Appends, Keeps}

-- the first n bytes of the piece are appended, at least one of a piece that is not empty
pub record Takes (held held' : Option (List ℕ)) (n : ℕ) (piece : List ℕ) : Type 0 where
  pub fits : n ≤ length piece
  pub some : 0 < length piece → 0 < n
  pub bytes : Appends held held' (take n piece)

-- at `Ok(n)` it takes n bytes, and at `Err` none
abbrev pub Writes : {E : Type 0} → Option (List ℕ) → Option (List ℕ) → Result ℕ E → List ℕ → Type 0
Writes held held' result piece = MatchResult result (λ n. Takes held held' n piece) (λ _. Keeps held held')

-- one piece after another
pub Appends-then : (a b c : Option (List ℕ)) (xs ys : List ℕ) → Appends a b xs → Appends b c ys → Appends a c (xs ++ ys)
Appends-then None b c xs ys first then = tt
Appends-then (Some held) None c xs ys first then = absurd first
Appends-then (Some held) (Some held') None xs ys first then = absurd then
Appends-then (Some held) (Some held') (Some held'') xs ys first then =
    then ∙ ap (λ bytes. bytes ++ ys) first ∙ append_assoc held xs ys

-- the next n bytes of a text, of which `at` bytes were written
pub Appends-more : (a b c : Option (List ℕ)) (text : List ℕ) (at n : ℕ) → Appends a b (take at text) → Appends b c (take n (drop at text)) → Appends a c (take (at + n) text)
Appends-more a b c text at n first then =
    rw (take-add at n text) (Appends-then a b c (take at text) (take n (drop at text)) first then)
