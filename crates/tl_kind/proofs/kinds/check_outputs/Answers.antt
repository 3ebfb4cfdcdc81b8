use Rattle.std.proofs.Common.{◌∙◌}
use Rattle.tl_kind.proofs.ListKinds.{refusal_in-stops, refusal_in-goes_on, refusal-err}
use Rattle.tl_kind.proofs.kinds.check_outputs.Goals as goal

pub returns-in_err-check_output : goal.returns-in_err-check_output
returns-in_err-check_output c =
    refusal-err c.from_residual.result c.in_err-check_output.field-0.0 c.from_residual.ensures.1
    ∙ refusal_in-stops c.args.inputs c.args.outputs.now c.loop-output.output-index c.output-item.result _ c.loop-output-test.true c.output-item.is c.in_err-check_output.ensures c.loop-output.invariant

pub loop-output-preserved : goal.loop-output-preserved
loop-output-preserved c = refusal_in-goes_on c.args.inputs c.args.outputs.now c.loop-output.output-index c.output-item.result c.loop-output-test.true c.output-item.is c.in_ok-check_output.ensures c.loop-output.invariant
