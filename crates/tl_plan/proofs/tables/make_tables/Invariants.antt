use Rattle.std.proofs.Common.{◌≡◌}
use Rattle.tl_plan.proofs.Steps.{made_from}
use Rattle.tl_plan.proofs.tables.make_tables.Given as goal

abbrev pub invariant-loop-i : goal.invariant-loop-i
invariant-loop-i l = (l.jobs, l.files) ≡ made_from l.seats l.i 0 l.initial.jobs l.initial.files
