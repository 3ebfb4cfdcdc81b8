use Rattle.tl_spelling.proofs.OneJournal.{one_journal}
use Rattle.tl_spelling.proofs.laws.one_journal.Goals as goal

pub returns : goal.returns
returns c = one_journal
