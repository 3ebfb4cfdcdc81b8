use Rattle.tl_pieces.proofs.Pieced.{collect-some, line-some, loss-some, numbered-some, read-given-up-adds, read-some, said-some, save-some, saving-given-up-some, tried-some, try-given-up-adds, unnumbered-some, work-given-up-some, work-some}
use Rattle.tl_pieces.proofs.lengthening.lines_add_to_the_journal.Goals as goal

pub returns-clause-puts : goal.returns-clause-puts
returns-clause-puts g c = λ s count before after result path text l. line-some s count _ _ _ before after (λ answer p. said-some s _ before after answer p.said) (unnumbered-some s before after _ (λ h. (_, h))) (λ number damage h. absurd h) result l

pub returns-clause-names : goal.returns-clause-names
returns-clause-names g c = λ s count before after result command l. line-some s count _ _ _ before after (said-some s command before after) (λ number h. absurd h) (λ number damage h. absurd h) result l

pub returns-clause-reads : goal.returns-clause-reads
returns-clause-reads g c = λ s count before after result command l. line-some s count _ _ _ before after (read-some s command before after) (numbered-some s before after _ (λ number h. (_, read-given-up-adds s command number before after h))) (λ number damage. numbered-some s before after _ (λ n h. (_, read-given-up-adds s command n before after h.0)) number) result l

pub returns-clause-tries : goal.returns-clause-tries
returns-clause-tries g c = λ s count before after result command l. line-some s count _ _ _ before after (tried-some s command before after) (numbered-some s before after _ (λ number h. (_, try-given-up-adds s command number before after h))) (λ number damage. numbered-some s before after _ (λ n h. (_, try-given-up-adds s command n before after h.0)) number) result l

pub returns-clause-losses : goal.returns-clause-losses
returns-clause-losses g c = λ s count before after result worker l. line-some s count _ _ _ before after (loss-some s worker before after) (λ number h. absurd h) (λ number damage h. absurd h) result l

pub returns-clause-work : goal.returns-clause-work
returns-clause-work g c = λ s count before after result worker n l. line-some s count _ _ _ before after (work-some s worker n before after) (unnumbered-some s before after _ (work-given-up-some s worker n before after)) (λ number damage. unnumbered-some s before after _ (λ h. work-given-up-some s worker n before after h.0) number) result l

pub returns-clause-saves : goal.returns-clause-saves
returns-clause-saves g c = λ s count before after result n l. line-some s count _ _ _ before after (save-some s n before after) (unnumbered-some s before after _ (saving-given-up-some s n before after)) (λ number damage h. absurd h) result l

pub returns-clause-collections : goal.returns-clause-collections
returns-clause-collections g c = λ s count before after result n l. line-some s count _ _ _ before after (collect-some s n before after) (λ number h. absurd h) (λ number damage h. absurd h) result l
