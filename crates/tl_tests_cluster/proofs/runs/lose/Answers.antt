use Rattle.tl_tests_cluster.proofs.Keeping.{turned-calls}
use Rattle.tl_tests_cluster.proofs.runs.lose.Goals as goal

pub returns : goal.returns
returns c = turned-calls c.args.actor c.args.cluster.now c.lose.new.self _ _ c.in_ok-lose.ensures.ok
