use Rattle.std.proofs.Common.{[], refl}
use Rattle.tl_script.specs.Tokens.{a_path}
use Rattle.tl_script.specs.Places.{path_then, end}
use Rattle.tl_script.proofs.Steps.{exit, stops_later, follows_spaced}
use Rattle.tl_script.proofs.command.last_path.Goals as goal

pub returns-in_err-path-clause-bad : goal.returns-in_err-path-clause-bad
returns-in_err-path-clause-bad c = exit c.from_residual.result c.in_err-path.field-0.0 _ c.from_residual.ensures.1 (c.in_err-path.ensures.bad end)

pub returns-in_err-at_end-clause-bad : goal.returns-in_err-at_end-clause-bad
returns-in_err-at_end-clause-bad c =
    exit c.from_residual-in_err-at_end.result c.in_err-at_end.field-0.0 _ c.from_residual-in_err-at_end.ensures.1
    (stops_later (path_then end) end c.args.text.now (a_path c.in_ok-path.path) c.in_ok-path.rest.now c.in_err-at_end.field-0.0 c.in_ok-path.ensures.found refl c.in_err-at_end.ensures.bad)

pub returns-clause-found : goal.returns-clause-found
returns-clause-found c = follows_spaced c.args.text.now (a_path c.in_ok-path.path) c.in_ok-path.rest.now [] c.in_ok-path.ensures.found c.in_ok-at_end.ensures.found
