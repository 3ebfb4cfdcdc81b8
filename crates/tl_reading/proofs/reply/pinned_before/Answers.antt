use Rattle.tl_reading.proofs.Sayings.{no_pinned}
use Rattle.tl_reading.proofs.reply.pinned_before.Goals as goal

pub returns-in_err-pinned-clause-none : goal.returns-in_err-pinned-clause-none
returns-in_err-pinned-clause-none c = rw c.from_residual-in_err-pinned.ensures
    (no_pinned c.args.text.now c.in_ok-file.file c.in_ok-file.rest.now c.in_ok-file.ensures.within c.in_ok-file.ensures.found c.in_err-pinned.ensures.none)
