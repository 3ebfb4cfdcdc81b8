use Rattle.tl_pieces.proofs.LongerLines.{collect-line-on, lose-line-on, names-line-on, put-line-on, read-line-on, save-line-on, try-line-on, work-line-on}
use Rattle.tl_pieces.proofs.lengthening.lines_stand_in_longer_journals.Goals as goal

pub returns-clause-puts : goal.returns-clause-puts
returns-clause-puts g c = λ s count before after later result a path text l. put-line-on s count before after later result a path text l

pub returns-clause-names : goal.returns-clause-names
returns-clause-names g c = λ s count before after later result a command l. names-line-on s count before after later result a command l

pub returns-clause-reads : goal.returns-clause-reads
returns-clause-reads g c = λ s count before after later result a command l. read-line-on s count before after later result a command l

pub returns-clause-tries : goal.returns-clause-tries
returns-clause-tries g c = λ s count before after later result a command l. try-line-on s count before after later result a command l

pub returns-clause-losses : goal.returns-clause-losses
returns-clause-losses g c = λ s count before after later result a worker l. lose-line-on s count before after later result a worker l

pub returns-clause-work : goal.returns-clause-work
returns-clause-work g c = λ s count before after later result a worker n l. work-line-on s count before after later result a worker n l

pub returns-clause-saves : goal.returns-clause-saves
returns-clause-saves g c = λ s count before after later result a n l. save-line-on s count before after later result a n l

pub returns-clause-collections : goal.returns-clause-collections
returns-clause-collections g c = λ s count before after later result a n l. collect-line-on s count before after later result a n l
