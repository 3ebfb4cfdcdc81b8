use Rattle.std.proofs.Common.{refl}
use Rattle.tl_script.specs.Tokens.{a_path}
use Rattle.tl_script.specs.Places.{path_then, end}
use Rattle.tl_script.proofs.Steps.{exit, stops_later}
use Rattle.tl_script.proofs.command.rename.Goals as goal

pub returns-in_err-from-clause-bad : goal.returns-in_err-from-clause-bad
returns-in_err-from-clause-bad c = exit c.from_residual.result c.in_err-from.field-0.0 _ c.from_residual.ensures.1 (c.in_err-from.ensures.bad (path_then end))

pub returns-in_err-to-clause-bad : goal.returns-in_err-to-clause-bad
returns-in_err-to-clause-bad c =
    exit c.from_residual-in_err-to.result c.in_err-to.field-0.0 _ c.from_residual-in_err-to.ensures.1
    (stops_later (path_then (path_then end)) (path_then end) c.args.text.now (a_path c.in_ok-from.from) c.in_ok-from.rest.now c.in_err-to.field-0.0 c.in_ok-from.ensures.found refl c.in_err-to.ensures.bad)
