use Rattle.std.proofs.Common.{◌+◌}
use Rattle.tl_script.specs.Tokens.{a_number}
use Rattle.tl_script.specs.Places.{path_then, end, reading, prio_limit}
use Rattle.tl_script.proofs.Steps.{exit, stops_later, when_true, within}
use Rattle.tl_script.proofs.command.read.Goals as goal

pub returns-in_err-prio-clause-bad : goal.returns-in_err-prio-clause-bad
returns-in_err-prio-clause-bad c = exit c.from_residual.result c.in_err-prio.field-0.0 _ c.from_residual.ensures.1 (c.in_err-prio.ensures.bad (path_then end))

pub returns-in_err-path-clause-bad : goal.returns-in_err-path-clause-bad
returns-in_err-path-clause-bad c =
    exit c.from_residual-in_err-path.result c.in_err-path.field-0.0 _ c.from_residual-in_err-path.ensures.1
    (stops_later reading (path_then end) c.args.text.now (a_number c.in_ok-prio.prio) c.in_ok-prio.rest.now c.in_err-path.field-0.0 c.in_ok-prio.ensures.found
    (when_true _ (path_then end) (within 0 (prio_limit + 1) c.in_ok-prio.prio c.in_ok-prio.ensures.within.0 c.in_ok-prio.ensures.within.1)) c.in_err-path.ensures.bad)
