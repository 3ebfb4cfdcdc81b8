use Rattle.tl_types.specs.Same.{path_same-Decides}
use Rattle.tl_types.proofs.laws.same_is_equal.Goals as goal

pub returns-clause-path : goal.returns-clause-path
returns-clause-path c = path_same-Decides
