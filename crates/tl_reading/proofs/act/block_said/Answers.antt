use Rattle.std.proofs.Common.{◌∷◌, sym, ◌∙◌}
use Rattle.tl_text.specs.File.{file_text}
use Rattle.tl_spelling.proofs.Cuts.{cut_worker, no_digit_at_space, tail_of}
use Rattle.tl_reading.proofs.act.block_said.Goals as goal

pub returns-in_err-worker-clause-none : goal.returns-in_err-worker-clause-none
returns-in_err-worker-clause-none c = rw c.from_residual.ensures (λ worker file is are e. c.in_err-worker.ensures.none worker (file_text file) is e)

pub returns-in_err-file-clause-none : goal.returns-in_err-file-clause-none
returns-in_err-file-clause-none c = rw c.from_residual-in_err-file.ensures (λ worker file is are e.
    let cut = cut_worker c.in_ok-worker.worker worker (0x20 ∷ c.in_ok-worker.rest.now) (0x20 ∷ file_text file) c.in_ok-worker.ensures.within is (no_digit_at_space c.in_ok-worker.rest.now) (no_digit_at_space (file_text file)) (sym c.in_ok-worker.ensures.found ∙ e) in
    c.in_err-file.ensures.none file are (tail_of 0x20 0x20 c.in_ok-worker.rest.now (file_text file) cut.1))
