use Rattle.tl_reading.proofs.Progress.{reads_only}
use Rattle.tl_reading.proofs.journal.read.Goals as goal

pub returns-clause-only : goal.returns-clause-only
returns-clause-only c = reads_only c.args.text.now c.journal_said.result c.journal_said.ensures.read c.journal_said.ensures.shown c.journal_said.ensures.unread
