use Rattle.tl_eval.proofs.Leading.{keep_begins}
use Rattle.tl_eval.proofs.loops.begin_keep.Goals as goal

pub returns : goal.returns
returns c = keep_begins _ _ _ _ _ _ _ _ _ _ c.in-List.is c.new.ensures c.in_ok-walk.ensures c.keep.ensures
