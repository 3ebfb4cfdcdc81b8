use Rattle.std.proofs.Common.{◌∷◌, sym, ◌∙◌}
use Rattle.hex.specs.Hex.{encode_lower}
use Rattle.tl_spelling.proofs.Cuts.{cut_file, no_digit_at_space, tail_of}
use Rattle.tl_reading.proofs.act.served_said.Goals as goal

pub returns-in_err-file-clause-none : goal.returns-in_err-file-clause-none
returns-in_err-file-clause-none c = rw c.from_residual.ensures (λ file digest is are e. c.in_err-file.ensures.none file (encode_lower digest.0) is e)

pub returns-in_err-digest-clause-none : goal.returns-in_err-digest-clause-none
returns-in_err-digest-clause-none c = rw c.from_residual-in_err-digest.ensures (λ file digest is are e.
    let cut = cut_file c.in_ok-file.file file (0x20 ∷ c.in_ok-file.rest.now) (0x20 ∷ encode_lower digest.0) c.in_ok-file.ensures.within is (no_digit_at_space c.in_ok-file.rest.now) (no_digit_at_space (encode_lower digest.0)) (sym c.in_ok-file.ensures.found ∙ e) in
    c.in_err-digest.ensures.none digest are (tail_of 0x20 0x20 c.in_ok-file.rest.now (encode_lower digest.0) cut.1))
