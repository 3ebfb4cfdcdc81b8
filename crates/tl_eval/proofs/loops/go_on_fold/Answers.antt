use Rattle.tl_eval.proofs.Leading.{fold_goes_on}
use Rattle.tl_eval.proofs.loops.go_on_fold.Goals as goal

pub returns : goal.returns
returns c = fold_goes_on _ _ _ _ _ c.args.walk _ _ c.in_ok-walk.ensures c.fold.ensures
