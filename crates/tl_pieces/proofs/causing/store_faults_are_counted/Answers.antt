use Rattle.tl_pieces.proofs.causing.store_faults_are_counted.Goals as goal

pub returns-clause-puts : goal.returns-clause-puts
returns-clause-puts g c = λ s count path text before after number l. l.ended.1

pub returns-clause-reads : goal.returns-clause-reads
returns-clause-reads g c = λ s count command before after number l. l.ended.1

pub returns-clause-tries : goal.returns-clause-tries
returns-clause-tries g c = λ s count command before after number l. l.ended.1

pub returns-clause-work : goal.returns-clause-work
returns-clause-work g c = λ s count worker n before after number l. l.ended.1

pub returns-clause-saves : goal.returns-clause-saves
returns-clause-saves g c = λ s count n before after number l. l.ended.1
