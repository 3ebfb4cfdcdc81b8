use Rattle.std.proofs.Common.{◌≡◌, ◌++◌, arith}
use Rattle.std.specs.Prelude.{decimal}
use Rattle.tl_script.proofs.Headers.{numeral_is, no_error, same_number}
use Rattle.tl_script.proofs.header.number_after.Goals as goal

pub returns-in_err-numeral-clause-none : goal.returns-in_err-numeral-clause-none
returns-in_err-numeral-clause-none c = rw c.from_residual.ensures (λ n rest low high ended e. c.in_err-numeral.ensures.none (decimal n ++ rest) e)

pub returns-in_default-clause-none : goal.returns-in_default-clause-none
returns-in_default-clause-none c = λ n rest low high ended e.
    no_error _ _ (c.in_default.ensures.only n rest (numeral_is c.args.text.now c.args.words.now c.in_ok-numeral.numeral.now n rest c.in_ok-numeral.ensures.found e (omega (arith, c.ranges.limit.fits)) ended))

pub returns-then-number-lt1-clause-none : goal.returns-then-number-lt1-clause-none
returns-then-number-lt1-clause-none c = λ n rest low high ended e.
    let same : c.in-Ok.number ≡ n = same_number _ _ _ _ (c.in-Ok.ensures.only n rest (numeral_is c.args.text.now c.args.words.now c.in_ok-numeral.numeral.now n rest c.in_ok-numeral.ensures.found e (omega (arith, c.ranges.limit.fits)) ended)) in
    omega arith

pub returns-then-limit-number-clause-none : goal.returns-then-limit-number-clause-none
returns-then-limit-number-clause-none c = λ n rest low high ended e.
    let same : c.in-Ok.number ≡ n = same_number _ _ _ _ (c.in-Ok.ensures.only n rest (numeral_is c.args.text.now c.args.words.now c.in_ok-numeral.numeral.now n rest c.in_ok-numeral.ensures.found e (omega (arith, c.ranges.limit.fits)) ended)) in
    omega arith
