use Rattle.tl_kind.specs.Kinds.{kind_number}
use Rattle.tl_script.proofs.Steps.{exit}
use Rattle.tl_script.proofs.Wrong.{refused_kinds}
use Rattle.tl_script.proofs.job.checked.Goals as goal

pub returns-in_err-program-clause-bad : goal.returns-in_err-program-clause-bad
returns-in_err-program-clause-bad c = exit c.from_residual.result c.in_err-program.field-0.0 _ c.from_residual.ensures.1 (c.in_err-program.ensures.bad c.args.inputs c.args.outputs)

pub returns-in-Err-clause-bad : goal.returns-in-Err-clause-bad
returns-in-Err-clause-bad c = refused_kinds c.args.version c.args.inputs c.args.outputs c.args.text.now c.in_ok-program.program (kind_number c.in-Err.field-0.kind) c.in_ok-program.ensures.found c.in_ok-program.ensures.few c.in-Err.ensures.exact
