use Rattle.tl_pieces.proofs.Examples.{collect-line, lose-line, save-line, work-line}
use Rattle.tl_pieces.proofs.worked.an_empty_journal_has_its_lines.Goals as goal

pub returns-clause-work : goal.returns-clause-work
returns-clause-work g c = λ s count worker n. work-line s count worker n

pub returns-clause-saves : goal.returns-clause-saves
returns-clause-saves g c = λ s count n. save-line s count n

pub returns-clause-collections : goal.returns-clause-collections
returns-clause-collections g c = λ s count n. collect-line s count n

pub returns-clause-losses : goal.returns-clause-losses
returns-clause-losses g c = λ s count worker. lose-line s count worker
