use Rattle.std.proofs.Common.{◌∷◌, sym, ◌∙◌, arith}
use Rattle.tl_spelling.proofs.Cuts.{cut_number}
use Rattle.tl_reading.proofs.Standing.{no_digit_at_dot}
use Rattle.tl_reading.proofs.token.dotted.Goals as goal

pub returns-then-number-ge-RECORDS-clause-none : goal.returns-then-number-ge-RECORDS-clause-none
returns-then-number-ge-RECORDS-clause-none c = λ n rest small e.
    let cut = cut_number c.in_ok-number.number n (0x2E ∷ c.in_ok-number.rest.now) (0x2E ∷ rest) (omega (arith, c.in_ok-number.ensures.within)) (omega (arith, small)) (no_digit_at_dot c.in_ok-number.rest.now) (no_digit_at_dot rest)
    (sym c.in_ok-number.ensures.found ∙ e) in
    omega (arith, cut.0, small, c.if-number-ge-RECORDS.true)
