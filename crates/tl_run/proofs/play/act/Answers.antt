use Rattle.std.proofs.Common.{◌<◌, ◌%◌, subst}
use Rattle.std.proofs.Math.Nat.{mod-lt}
use Rattle.tl_run.proofs.Rests.{all-rest}
use Rattle.tl_run.proofs.play.act.Goals as goal

pub do_line-requires-clause-bound : goal.do_line-requires-clause-bound
do_line-requires-clause-bound c = subst (λ n. c.args.client % c.args.workers < n) c.requires.workers (mod-lt c.args.client c.requires.some)

pub do_line-requires-clause-rest : goal.do_line-requires-clause-rest
do_line-requires-clause-rest c = c.requires.rest (record { 0 = c.args.client })

pub returns-clause-rest : goal.returns-clause-rest
returns-clause-rest c = all-rest _ _ (record { 0 = c.args.client }) c.requires.rest c.do_line.ensures.rest c.do_line.ensures.same
