use Rattle.tl_reading.proofs.token.worker_last.Goals as goal

pub returns-in_err-number-clause-none : goal.returns-in_err-number-clause-none
returns-in_err-number-clause-none c = rw c.from_residual.ensures (λ worker is e. c.in_err-number.ensures.none worker.0 is e)
