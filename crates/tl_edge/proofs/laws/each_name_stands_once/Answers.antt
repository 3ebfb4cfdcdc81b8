use Rattle.tl_edge.proofs.Once.{all-once}
use Rattle.tl_edge.proofs.laws.each_name_stands_once.Goals as goal

pub returns-clause-paths : goal.returns-clause-paths
returns-clause-paths g c = λ judge header past ok. (all-once judge header past ok).paths

pub returns-clause-files : goal.returns-clause-files
returns-clause-files g c = λ judge header past ok. (all-once judge header past ok).files
