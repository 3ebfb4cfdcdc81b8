use Rattle.std.proofs.Common.{◌∷◌, decimal, sym, ◌∙◌}
use Rattle.tl_spelling.proofs.Cuts.{cut_worker, no_digit_at_space, tail_of}
use Rattle.tl_reading.proofs.act.job_said.Goals as goal

pub returns-in_err-worker-clause-none : goal.returns-in_err-worker-clause-none
returns-in_err-worker-clause-none c = rw c.from_residual.ensures (λ worker made is are e. c.in_err-worker.ensures.none worker (decimal made.0) is e)

pub returns-in_err-made-clause-none : goal.returns-in_err-made-clause-none
returns-in_err-made-clause-none c = rw c.from_residual-in_err-made.ensures (λ worker made is are e.
    let cut = cut_worker c.in_ok-worker.worker worker (0x20 ∷ c.in_ok-worker.rest.now) (0x20 ∷ decimal made.0) c.in_ok-worker.ensures.within is (no_digit_at_space c.in_ok-worker.rest.now) (no_digit_at_space (decimal made.0)) (sym c.in_ok-worker.ensures.found ∙ e) in
    c.in_err-made.ensures.none made are (tail_of 0x20 0x20 c.in_ok-worker.rest.now (decimal made.0) cut.1))
