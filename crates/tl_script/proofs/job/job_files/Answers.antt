use Rattle.std.proofs.Common.{length}
use Rattle.tl_script.specs.Places.{inputs, outputs, program_then, Refused}
use Rattle.tl_script.proofs.Steps.{exit, stops_more}
use Rattle.tl_script.proofs.job.job_files.Goals as goal

pub returns-in_err-inputs-clause-bad : goal.returns-in_err-inputs-clause-bad
returns-in_err-inputs-clause-bad c =
    let read = rw c.input_limit.ensures at c.in_err-inputs.ensures.bad in
    exit c.from_residual.result c.in_err-inputs.field-0.0 _ c.from_residual.ensures.1 (read (outputs c.args.version))

pub returns-in_err-outputs-clause-bad : goal.returns-in_err-outputs-clause-bad
returns-in_err-outputs-clause-bad c =
    let later = rw c.input_limit.ensures at c.in_ok-inputs.ensures.later in
    let read = rw c.output_limit.ensures at c.in_err-outputs.ensures.bad in
    exit c.from_residual-in_err-outputs.result c.in_err-outputs.field-0.0 _ c.from_residual-in_err-outputs.ensures.1
    (stops_more (Refused (outputs c.args.version (length c.in_ok-inputs.inputs.items)) c.in_ok-inputs.rest.now) (Refused (inputs c.args.version) c.args.text.now) c.in_err-outputs.field-0.0 (later (outputs c.args.version))
    (read (program_then c.args.version (length c.in_ok-inputs.inputs.items))))
