use Rattle.std.proofs.Common.{◌∷◌, arith}
use Rattle.tl_reading.proofs.Standing.{no_space_left, same_rest, stands_before}
use Rattle.tl_reading.proofs.token.number_before.Goals as goal

pub returns-in_err-number-clause-none : goal.returns-in_err-number-clause-none
returns-in_err-number-clause-none c = rw c.from_residual.ensures (λ n rest lt e.
    c.in_err-number.ensures.none n (0x20 ∷ rest) (omega arith) lt (stands_before c.args.below n c.args.text.now rest c.ranges.below.fits lt e))

pub returns-in_err-front-clause-none : goal.returns-in_err-front-clause-none
returns-in_err-front-clause-none c = rw c.from_residual-in_err-front.ensures (λ n rest lt e.
    no_space_left c.in_ok-number.rest.now rest c.in_err-front.ensures.none
    (same_rest c.in_ok-number.number n c.args.text.now c.in_ok-number.rest.now (0x20 ∷ rest) c.in_ok-number.ensures.found (stands_before c.args.below n c.args.text.now rest c.ranges.below.fits lt e)))
