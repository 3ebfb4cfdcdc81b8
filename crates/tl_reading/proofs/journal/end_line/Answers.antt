use Rattle.tl_reading.proofs.Progress.{same_count}
use Rattle.tl_reading.proofs.journal.end_line.Goals as goal

pub returns-then-number-count-clause-none : goal.returns-then-number-count-clause-none
returns-then-number-count-clause-none c = λ rest e.
    c.if-number-count.true
    (same_count c.in_ok-number.number c.args.count c.args.text.now c.in_ok-said.said.now c.in_ok-number.rest.now rest c.in_ok-number.ensures.within c.ranges.count.fits c.in_ok-said.ensures.found c.in_ok-number.ensures.found e)
