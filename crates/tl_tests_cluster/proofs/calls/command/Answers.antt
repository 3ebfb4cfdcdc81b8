use Rattle.tl_tests_cluster.proofs.calls.command.Goals as goal

pub returns : goal.returns
returns c = c.called.ensures c.args.header.now c.in_ok-op.ensures.read.command
