use Rattle.std.proofs.Common.{◌∷◌, length, sym, ◌∙◌, arith}
use Rattle.tl_spelling.proofs.Cuts.{cut_number, no_digit_at_space, tail_of}
use Rattle.tl_reading.specs.Replies.{listed}
use Rattle.tl_reading.proofs.Stopping.{err_more}
use Rattle.tl_reading.proofs.reply.entries_before.Goals as goal

pub returns-clause-none : goal.returns-clause-none
returns-clause-none c =
    err_more c.listed.result _ _
    (λ none entries rest are few e.
    let cut = cut_number c.in-Some.count (length entries) (0x20 ∷ c.in-Some.rest.now) (0x20 ∷ listed entries rest) (omega (arith, c.in-Some.ensures.within)) (omega (arith, few)) (no_digit_at_space c.in-Some.rest.now) (no_digit_at_space (listed entries rest)) (sym c.in-Some.ensures.found ∙ e) in
    none entries rest (sym cut.0) are (tail_of 0x20 0x20 c.in-Some.rest.now (listed entries rest) cut.1))
    c.listed.ensures.none
