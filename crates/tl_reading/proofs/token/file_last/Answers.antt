use Rattle.std.proofs.Common.{decimal}
use Rattle.tl_reading.proofs.Standing.{behind_dot}
use Rattle.tl_reading.proofs.token.file_last.Goals as goal

pub returns-in_err-made-clause-none : goal.returns-in_err-made-clause-none
returns-in_err-made-clause-none c = rw c.from_residual.ensures (λ file is e. c.in_err-made.ensures.none file.rec.0 (decimal file.out) is.0 e)

pub returns-in_err-out-clause-none : goal.returns-in_err-out-clause-none
returns-in_err-out-clause-none c = rw c.from_residual-in_err-out.ensures (λ file is e.
    c.in_err-out.ensures.none file.out is.1
    (behind_dot c.in_ok-made.made file.rec.0 c.args.text.now c.in_ok-made.rest.now (decimal file.out) c.in_ok-made.ensures.within is.0 c.in_ok-made.ensures.found e))
