use Rattle.tl_eval.proofs.Leading.{keep_goes_on}
use Rattle.tl_eval.proofs.loops.go_on_keep.Goals as goal

pub returns : goal.returns
returns c = keep_goes_on _ _ _ _ c.args.walk _ c.args.texts _ _ _ c.in-Some.ensures c.in_ok-texts.ensures c.in_ok-walk.ensures c.keep.ensures
