use Rattle.std.proofs.Common.{◌≤◌}
use Rattle.tl_bench.proofs.folder.test_all.Given as goal

abbrev pub invariant-loop-ticket : goal.invariant-loop-ticket
invariant-loop-ticket g l = l.fitting ≤ l.ticket-index
