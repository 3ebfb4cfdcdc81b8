use Rattle.tl_pieces.proofs.counting.counts_fall_short_for_a_reason.Goals as goal

pub returns-clause-work : goal.returns-clause-work
returns-clause-work g c = λ s count worker n k before after l few. l.ended.enough.short few

pub returns-clause-saves : goal.returns-clause-saves
returns-clause-saves g c = λ s count n k before after l few. l.ended.enough.short few

pub returns-clause-collections : goal.returns-clause-collections
returns-clause-collections g c = λ s count n k before after l few. l.ended.enough.short few
