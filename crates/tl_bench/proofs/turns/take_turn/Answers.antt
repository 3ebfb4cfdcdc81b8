use Rattle.std.proofs.Common.{◌≡◌, ℕ, List, ◌∷◌, refl, sym, ap, subst, OnOk, OnErr, Result, Ok, Err}
use Rattle.std.specs.declared.alloc.AllocError.{AllocError}
use Rattle.tl_turn.specs.Log.{IsAddedBy}
use Rattle.tl_turn.proofs.Logs.{adds_none, adds_one}
use Rattle.tl_bench.proofs.turns.take_turn.Goals as goal

-- an entry was added, or none
added : (number value : ℕ) (found now : List (ℕ × ℕ)) (r : Result (Unit {0}) AllocError) → OnOk r (now ≡ (number, value) ∷ found) → OnErr r (now ≡ found) → IsAddedBy (λ (entry : ℕ × ℕ). entry.0) number found now
added number value found now (Ok x) ok err = subst (IsAddedBy (λ (entry : ℕ × ℕ). entry.0) number found) (sym ok) (adds_one (λ (entry : ℕ × ℕ). entry.0) number (number, value) found refl)
added number value found now (Err e) ok err = subst (IsAddedBy (λ (entry : ℕ × ℕ). entry.0) number found) (sym err) (adds_none (λ (entry : ℕ × ℕ). entry.0) number found)

pub leave-requires-clause-log : goal.leave-requires-clause-log
leave-requires-clause-log g c =
    let a = added c.number.result c.args.value c.enter-book.result.entries c.add-added.new.self.entries c.add-added.result c.add-added.ensures.ok c.add-added.ensures.err in
    rw (ap (λ s. s.seen) c.enter-book.ensures.seat, ← c.number.ensures) a
