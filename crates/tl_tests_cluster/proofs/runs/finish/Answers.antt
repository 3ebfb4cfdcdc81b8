use Rattle.tl_tests_cluster.proofs.Keeping.{done-calls}
use Rattle.tl_tests_cluster.proofs.runs.finish.Goals as goal

pub returns : goal.returns
returns c =
    done-calls c.args.cluster.now c.done.new.self c.args.work _ c.done.result c.in-Ok.finish _ c.in-Ok.is c.done.ensures
