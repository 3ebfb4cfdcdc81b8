use Rattle.tl_pieces.proofs.Reasons.{memory-alone}
use Rattle.tl_pieces.proofs.causing.lines_without_a_store_fail_for_memory_alone.Goals as goal

pub returns-clause-names : goal.returns-clause-names
returns-clause-names g c = λ s count command before after error l. memory-alone s count _ before after error l

pub returns-clause-losses : goal.returns-clause-losses
returns-clause-losses g c = λ s count worker before after error l. memory-alone s count _ before after error l

pub returns-clause-collections : goal.returns-clause-collections
returns-clause-collections g c = λ s count n before after error l. memory-alone s count _ before after error l
