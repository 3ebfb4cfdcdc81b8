use Rattle.tl_run.proofs.Endings.{accepts}
use Rattle.tl_run.proofs.alone.alone_call.Goals as goal

pub returns-clause-accepted : goal.returns-clause-accepted
returns-clause-accepted g c = accepts _ _ c.run-status.result.kept _ _ c.code.result c.a_script_is_not_refused.ensures
    (record { status = c.run-status.result.status; code_is = c.code.ensures; ends = c.run-status.ensures })
