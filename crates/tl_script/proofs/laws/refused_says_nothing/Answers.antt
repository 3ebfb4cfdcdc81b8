use Rattle.tl_script.proofs.Unique.{never_said}
use Rattle.tl_script.proofs.laws.refused_says_nothing.Goals as goal

pub returns : goal.returns
returns c = λ header bytes kind op w refused h. never_said header bytes kind op w refused h
