use Rattle.tl_pieces.proofs.Reasons.{untold-numbered, untold-unnumbered}
use Rattle.tl_pieces.proofs.causing.damage_is_of_a_store_that_tells_nothing.Goals as goal

pub returns-clause-reads : goal.returns-clause-reads
returns-clause-reads g c = λ s count command before after number damage l. untold-numbered s _ (λ n h. h.1.untold) number l.ended

pub returns-clause-tries : goal.returns-clause-tries
returns-clause-tries g c = λ s count command before after number damage l. untold-numbered s _ (λ n h. h.1.untold) number l.ended

pub returns-clause-work : goal.returns-clause-work
returns-clause-work g c = λ s count worker n before after number damage l. untold-unnumbered s _ (λ h. h.1.untold) number l.ended

pub returns-clause-puts : goal.returns-clause-puts
returns-clause-puts g c = λ s count path text before after number damage l. l.ended

pub returns-clause-saves : goal.returns-clause-saves
returns-clause-saves g c = λ s count n before after number damage l. l.ended
