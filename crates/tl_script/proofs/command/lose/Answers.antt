use Rattle.tl_script.specs.Tokens.{a_number}
use Rattle.tl_script.specs.Places.{number_then, end}
use Rattle.tl_script.proofs.Steps.{exit, stops_later, when_true, within}
use Rattle.tl_script.proofs.command.lose.Goals as goal

pub returns-in_err-worker-clause-bad : goal.returns-in_err-worker-clause-bad
returns-in_err-worker-clause-bad c = exit c.from_residual.result c.in_err-worker.field-0.0 _ c.from_residual.ensures.1 (c.in_err-worker.ensures.bad end)

pub returns-in_err-at_end-clause-bad : goal.returns-in_err-at_end-clause-bad
returns-in_err-at_end-clause-bad c =
    exit c.from_residual-in_err-at_end.result c.in_err-at_end.field-0.0 _ c.from_residual-in_err-at_end.ensures.1
    (stops_later (number_then 0 c.args.workers end) end c.args.text.now (a_number c.in_ok-worker.worker) c.in_ok-worker.rest.now c.in_err-at_end.field-0.0 c.in_ok-worker.ensures.found
    (when_true _ end (within 0 c.args.workers c.in_ok-worker.worker c.in_ok-worker.ensures.within.0 c.in_ok-worker.ensures.within.1)) c.in_err-at_end.ensures.bad)
