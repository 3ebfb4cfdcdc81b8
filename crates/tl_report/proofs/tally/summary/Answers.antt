use Rattle.std.proofs.Common.{◌∙◌}
use Rattle.tl_report.proofs.Counts.{told_line}
use Rattle.tl_report.proofs.tally.summary.Goals as goal

pub returns-clause-ok : goal.returns-clause-ok
returns-clause-ok g c =
    told_line _ _ _ _ c.events.result.now c.args.journal.now.events (c.as_bytes.ensures.value ∙ c.in_ok-text.ensures) c.events.ensures c.whole_line.ensures.ok
