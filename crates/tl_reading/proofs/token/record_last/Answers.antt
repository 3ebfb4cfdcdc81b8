use Rattle.tl_reading.proofs.token.record_last.Goals as goal

pub returns-in_err-number-clause-none : goal.returns-in_err-number-clause-none
returns-in_err-number-clause-none c = rw c.from_residual.ensures (λ made is e. c.in_err-number.ensures.none made.0 is e)
