use Rattle.std.proofs.Common.{◌≡◌, ℕ, suc, if◌then◌else◌, length}
use Rattle.tl_eval.specs.Frames.{next_ending, is_given}
use Rattle.tl_eval.proofs.stop.unwind.Given as goal

abbrev pub invariant-loop-next : goal.invariant-loop-next
invariant-loop-next l = (left : ℕ) → next_ending l.next l.stack left ≡ next_ending l.initial.next l.initial.stack left

abbrev pub decreases-loop-next : goal.decreases-loop-next
decreases-loop-next l = if is_given l.next then suc (length l.stack) else 0
