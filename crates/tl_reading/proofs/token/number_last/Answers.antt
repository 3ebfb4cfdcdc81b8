use Rattle.std.proofs.Common.{[], arith}
use Rattle.tl_reading.proofs.Standing.{same_rest, some_left, stands_last}
use Rattle.tl_reading.proofs.token.number_last.Goals as goal

pub returns-in_err-number-clause-none : goal.returns-in_err-number-clause-none
returns-in_err-number-clause-none c = rw c.from_residual.ensures (λ n lt e.
    c.in_err-number.ensures.none n [] (omega arith) lt (stands_last c.args.below n c.args.text.now c.ranges.below.fits lt e))

pub returns-then-not-is_empty-clause-none : goal.returns-then-not-is_empty-clause-none
returns-then-not-is_empty-clause-none c = λ n lt e.
    some_left c.in_ok-number.rest.now c.if-not-is_empty.ensures
    (same_rest c.in_ok-number.number n c.args.text.now c.in_ok-number.rest.now [] c.in_ok-number.ensures.found (stands_last c.args.below n c.args.text.now c.ranges.below.fits lt e))
