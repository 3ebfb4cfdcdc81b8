-- Several files are used, one after another.
use Rattle.std.proofs.Common.{◌≡◌, ◌∙◌, ℕ, zero, suc, ◌+◌, ◌<◌, List, [], ◌∷◌, take, get_or, length, refl, ap, arith}
use Rattle.tl_types.specs.declared.file_id.FileId.{FileId}
use Rattle.tl_fleet.specs.Events.{touched_each}
use Rattle.tl_fleet.specs.Workers.{Workers, IsOnce, all_touched}
use Rattle.tl_fleet.proofs.Once.{once_touched}

next : (n : ℕ) → suc n ≡ n + 1
next n = omega arith

one_more_at : (fs : List FileId) (i : ℕ) (d : FileId) (ws : Workers) → i < length fs → all_touched (get_or fs i d) (touched_each (take i fs) ws) ≡ touched_each (take (suc i) fs) ws
one_more_at [] i d ws l = absurd (omega arith)
one_more_at (f ∷ fs) zero d ws l = refl
one_more_at (f ∷ fs) (suc i) d ws l = one_more_at fs i d (all_touched f ws) (omega arith)

-- the file at a place comes after those before it
pub one_used : (fs : List FileId) (i : ℕ) (d : FileId) (ws : Workers) → i < length fs → all_touched (get_or fs i d) (touched_each (take i fs) ws) ≡ touched_each (take (i + 1) fs) ws
one_used fs i d ws l = one_more_at fs i d ws l ∙ ap (λ k. touched_each (take k fs) ws) (next i)

-- each file stays on one worker at most
pub once_used : (fs : List FileId) (ws : Workers) → IsOnce ws → IsOnce (touched_each fs ws)
once_used [] ws once = once
once_used (f ∷ fs) ws once = once_used fs (all_touched f ws) (once_touched f ws once)
