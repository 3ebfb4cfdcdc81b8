use Rattle.std.proofs.Common.{◌+◌, []}
use Rattle.tl_script.specs.Tokens.{a_number}
use Rattle.tl_script.specs.Places.{number_then, settings, inputs, Refused, prio_limit, fuel_limit}
use Rattle.tl_script.proofs.Steps.{exit, stops_more, stops_later, when_true, within}
use Rattle.tl_script.proofs.job.job.Goals as goal

pub returns-in_err-prio-clause-bad : goal.returns-in_err-prio-clause-bad
returns-in_err-prio-clause-bad c = exit c.from_residual.result c.in_err-prio.field-0.0 _ c.from_residual.ensures.1 (c.in_err-prio.ensures.bad (number_then 1 (fuel_limit + 1) (settings c.args.header.now.version [])))

pub returns-in_err-fuel-clause-bad : goal.returns-in_err-fuel-clause-bad
returns-in_err-fuel-clause-bad c =
    exit c.from_residual-in_err-fuel.result c.in_err-fuel.field-0.0 _ c.from_residual-in_err-fuel.ensures.1
    (stops_later (number_then 0 (prio_limit + 1) (number_then 1 (fuel_limit + 1) (settings c.args.header.now.version []))) (number_then 1 (fuel_limit + 1) (settings c.args.header.now.version [])) c.args.text.now (a_number c.in_ok-prio.prio) c.in_ok-prio.rest.now c.in_err-fuel.field-0.0 c.in_ok-prio.ensures.found
    (when_true _ (number_then 1 (fuel_limit + 1) (settings c.args.header.now.version [])) (within 0 (prio_limit + 1) c.in_ok-prio.prio c.in_ok-prio.ensures.within.0 c.in_ok-prio.ensures.within.1)) (c.in_err-fuel.ensures.bad (settings c.args.header.now.version [])))

pub returns-in_err-pairs-clause-bad : goal.returns-in_err-pairs-clause-bad
returns-in_err-pairs-clause-bad c =
    exit c.from_residual-in_err-pairs.result c.in_err-pairs.field-0.0 _ c.from_residual-in_err-pairs.ensures.1
    (stops_later (number_then 0 (prio_limit + 1) (number_then 1 (fuel_limit + 1) (settings c.args.header.now.version []))) (number_then 1 (fuel_limit + 1) (settings c.args.header.now.version [])) c.args.text.now (a_number c.in_ok-prio.prio) c.in_ok-prio.rest.now c.in_err-pairs.field-0.0 c.in_ok-prio.ensures.found
    (when_true _ (number_then 1 (fuel_limit + 1) (settings c.args.header.now.version [])) (within 0 (prio_limit + 1) c.in_ok-prio.prio c.in_ok-prio.ensures.within.0 c.in_ok-prio.ensures.within.1))
    (stops_later (number_then 1 (fuel_limit + 1) (settings c.args.header.now.version [])) (settings c.args.header.now.version []) c.in_ok-prio.rest.now (a_number c.in_ok-fuel.fuel) c.in_ok-fuel.rest.now c.in_err-pairs.field-0.0 c.in_ok-fuel.ensures.found
    (when_true _ (settings c.args.header.now.version []) (within 1 (fuel_limit + 1) c.in_ok-fuel.fuel c.in_ok-fuel.ensures.within.0 c.in_ok-fuel.ensures.within.1)) (c.in_err-pairs.ensures.bad c.args.header.now.version)))

pub returns-in_err-files-clause-bad : goal.returns-in_err-files-clause-bad
returns-in_err-files-clause-bad c =
    exit c.from_residual-in_err-files.result c.in_err-files.field-0.0 _ c.from_residual-in_err-files.ensures.1
    (stops_later (number_then 0 (prio_limit + 1) (number_then 1 (fuel_limit + 1) (settings c.args.header.now.version []))) (number_then 1 (fuel_limit + 1) (settings c.args.header.now.version [])) c.args.text.now (a_number c.in_ok-prio.prio) c.in_ok-prio.rest.now c.in_err-files.field-0.0 c.in_ok-prio.ensures.found
    (when_true _ (number_then 1 (fuel_limit + 1) (settings c.args.header.now.version [])) (within 0 (prio_limit + 1) c.in_ok-prio.prio c.in_ok-prio.ensures.within.0 c.in_ok-prio.ensures.within.1))
    (stops_later (number_then 1 (fuel_limit + 1) (settings c.args.header.now.version [])) (settings c.args.header.now.version []) c.in_ok-prio.rest.now (a_number c.in_ok-fuel.fuel) c.in_ok-fuel.rest.now c.in_err-files.field-0.0 c.in_ok-fuel.ensures.found
    (when_true _ (settings c.args.header.now.version []) (within 1 (fuel_limit + 1) c.in_ok-fuel.fuel c.in_ok-fuel.ensures.within.0 c.in_ok-fuel.ensures.within.1))
    (stops_more (Refused (inputs c.args.header.now.version) c.in_ok-pairs.rest.now) (Refused (settings c.args.header.now.version []) c.in_ok-fuel.rest.now) c.in_err-files.field-0.0 (c.in_ok-pairs.ensures.later c.args.header.now.version) c.in_err-files.ensures.bad)))
