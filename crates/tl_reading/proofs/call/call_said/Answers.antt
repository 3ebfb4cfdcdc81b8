use Rattle.tl_reading.proofs.EventParts.{no_call}
use Rattle.tl_reading.proofs.Stopping.{exit, stop_more}
use Rattle.tl_reading.proofs.call.call_said.Goals as goal

pub returns-in_err-command-clause-none : goal.returns-in_err-command-clause-none
returns-in_err-command-clause-none c =
    exit c.from_residual-in_err-command.result c.in_err-command.field-0.0 _ c.from_residual-in_err-command.ensures.1
    (stop_more _ _ c.in_err-command.field-0.0
    (no_call c.args.header.now c.args.text.now c.in_ok-reply.reply c.in_ok-reply.rest.now c.in_ok-reply.ensures.within c.in_ok-reply.ensures.found)
    c.in_err-command.ensures.none)
