use Rattle.tl_eval.proofs.Searching.{uncut, cut_first}
use Rattle.tl_eval.proofs.split.cut.Goals as goal

pub returns-in_err-place-clause-cut : goal.returns-in_err-place-clause-cut
returns-in_err-place-clause-cut c = rw c.from_residual.ensures (uncut c.args.byte c.args.text.now c.memchr.result c.in_err-place.was c.memchr.ensures)

pub returns-clause-cut : goal.returns-clause-cut
returns-clause-cut c = cut_first _ _ _ _ _ _ c.in_ok-place.ensures c.split_at.ensures.front c.split_at.ensures.back c.split_at-2.ensures.back
