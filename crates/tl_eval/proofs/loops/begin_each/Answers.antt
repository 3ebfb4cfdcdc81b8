use Rattle.tl_eval.proofs.Leading.{each_begins}
use Rattle.tl_eval.proofs.loops.begin_each.Goals as goal

pub returns : goal.returns
returns c = each_begins _ _ _ _ _ _ _ _ _ _ c.in-List.is c.new.ensures c.in_ok-walk.ensures c.each.ensures
