use Rattle.std.proofs.Common.{sym, arith}
use Rattle.tl_kind.specs.Refusals.{job}
use Rattle.tl_kind.proofs.Steps.{exit}
use Rattle.tl_kind.proofs.Programs.{job_takes, refused_outputs, are_outputs}
use Rattle.tl_kind.proofs.parsing.outputs.Goals as goal

pub returns-in_err-outputs-clause-bad : goal.returns-in_err-outputs-clause-bad
returns-in_err-outputs-clause-bad c = exit c.from_residual.result c.in_err-outputs.field-0.0 _ c.from_residual.ensures.1 (c.in_err-outputs.ensures.bad job job_takes)

pub returns-in-Some-clause-bad : goal.returns-in-Some-clause-bad
returns-in-Some-clause-bad c =
    refused_outputs c.in_ok-outputs.outputs.items c.args.cursor.now.rest.now c.several.new.cursor.rest.now c.len.result c.in-Some.kind c.in_ok-outputs.ensures.found (omega (arith, c.len.ensures, c.in_ok-outputs.outputs.ok.0)) (sym c.in-Some.ensures)

pub returns-clause-found : goal.returns-clause-found
returns-clause-found c =
    are_outputs c.in_ok-outputs.outputs.items c.args.cursor.now.rest.now c.several.new.cursor.rest.now c.expect.new.cursor.rest.now c.len.result c.in_ok-outputs.ensures.found (omega (arith, c.len.ensures, c.in_ok-outputs.outputs.ok.0)) (sym c.in_default.ensures) c.in_ok-expect.ensures.found
