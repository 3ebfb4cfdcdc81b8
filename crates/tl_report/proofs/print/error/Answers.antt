use Rattle.std.proofs.Common.{ap, sym, codes}
use Rattle.tl_report.specs.Words.{damage_words, error_words}
use Rattle.tl_report.proofs.Spacing.{two_steps}
use Rattle.tl_report.proofs.print.error.Goals as goal

pub returns-in_ok-word-in-Damaged-clause-ok : goal.returns-in_ok-word-in-Damaged-clause-ok
returns-in_ok-word-in-Damaged-clause-ok c =
    two_steps _ _ _ _ (codes "fault damage ") (damage_words c.in-Damaged.found) _
    c.in_ok-word-in-Damaged.ensures.ok (sym (ap error_words c.in-Damaged.is)) c.damage.ensures.ok
