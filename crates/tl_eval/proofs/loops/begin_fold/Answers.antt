use Rattle.tl_eval.proofs.Leading.{fold_begins}
use Rattle.tl_eval.proofs.loops.begin_fold.Goals as goal

pub returns : goal.returns
returns c = fold_begins _ _ _ _ _ _ _ _ _ _ _ c.in-List.is c.in_ok-walk.ensures c.fold.ensures
