-- A read that copies the next bytes to the front of its buffer gives them.
use Rattle.std.proofs.Common.{◌≡◌, ℕ, ◌<◌, ◌≤◌, ◌+◌, ◌-◌, min, List, ◌++◌, length, take, drop, Some, ap, sym, arith, length-append}
use Rattle.std.proofs.lemmas.List.{take-append-drop, take_at, length-take-le, nil_from_length, drop-drop}
use Rattle.std.proofs.lemmas.Grind.{common_steps}
use Rattle.tl_io.specs.Source.{Gives}

pub gives-front : (rest into : List ℕ) (n : ℕ) → n ≡ min (length rest) (length into) → 0 < length into → Gives (Some rest) (Some (drop n rest)) n (take n rest ++ drop n into)
gives-front rest into n least room =
    let within : n ≤ length rest = omega arith in
    let copied : length (take n rest) ≡ n = length-take-le n rest within in
    record {
      fits = omega (arith, length-append (take n rest) (drop n into));
      bytes = rw (take_at (take n rest) (drop n into) n copied) (sym (take-append-drop n rest));
      end = (λ none. nil_from_length rest (omega arith), λ empty. let zero : length rest ≡ 0 = ap length empty in omega arith);
    }

-- the same where the rest stands in `bytes` from `at` on
pub gives-from : (bytes into copied : List ℕ) (at n : ℕ) → n ≡ min (length (take (length bytes - at) (drop at bytes))) (length into) → copied ≡ take n (take (length bytes - at) (drop at bytes)) → 0 < length into → Gives (Some (drop at bytes)) (Some (drop (at + n) bytes)) n (copied ++ drop n into)
gives-from bytes into copied at n least is room =
    let rest : take (length bytes - at) (drop at bytes) ≡ drop at bytes = grind (arith, common_steps) in
    rw (rw rest at is, ← drop-drop n at bytes) (gives-front (drop at bytes) into n (rw rest at least) room)
