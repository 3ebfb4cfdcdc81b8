use Rattle.std.proofs.Common.{◌++◌, ◌∷◌, decimal}
use Rattle.tl_reading.proofs.Standing.{behind_dot, file_dot}
use Rattle.tl_reading.proofs.token.file_before.Goals as goal

pub returns-in_err-made-clause-none : goal.returns-in_err-made-clause-none
returns-in_err-made-clause-none c = rw c.from_residual.ensures (λ file rest is e.
    c.in_err-made.ensures.none file.rec.0 (decimal file.out ++ 0x20 ∷ rest) is.0 (file_dot file c.args.text.now rest e))

pub returns-in_err-out-clause-none : goal.returns-in_err-out-clause-none
returns-in_err-out-clause-none c = rw c.from_residual-in_err-out.ensures (λ file rest is e.
    c.in_err-out.ensures.none file.out rest is.1
    (behind_dot c.in_ok-made.made file.rec.0 c.args.text.now c.in_ok-made.rest.now (decimal file.out ++ 0x20 ∷ rest) c.in_ok-made.ensures.within is.0 c.in_ok-made.ensures.found (file_dot file c.args.text.now rest e)))
