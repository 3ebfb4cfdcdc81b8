use Rattle.tl_script.proofs.Unique.{one_kind_stands}
use Rattle.tl_script.proofs.laws.one_kind.Goals as goal

pub returns : goal.returns
returns c = λ place bytes kind other h k. one_kind_stands h other k
