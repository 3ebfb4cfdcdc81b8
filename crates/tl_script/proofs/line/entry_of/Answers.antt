use Rattle.std.proofs.Common.{◌∷◌, refl, sym, inr, arith}
use Rattle.std.proofs.lemmas.Bool.{le-leb}
use Rattle.tl_script.specs.Tokens.{a_number}
use Rattle.tl_script.specs.Places.{command, Refused, wrong, later, missing, client_limit}
use Rattle.tl_script.specs.Script.{RefusedLine}
use Rattle.tl_script.proofs.Steps.{exit, stops_more, when_true}
use Rattle.tl_script.proofs.Wrong.{wrong_client}
use Rattle.tl_script.proofs.line.entry_of.Goals as goal

pub returns-in_default-clause-bad : goal.returns-in_default-clause-bad
returns-in_default-clause-bad c = inr (omega (arith, c.if-line-gt-LINE_LIMIT.false), sym c.if-is_skipped.ensures, wrong c.args.line.now refl (wrong_client c.args.header.now c.args.line.now c.in_default.ensures.none) refl)

pub returns-in_default-front_of-clause-bad : goal.returns-in_default-front_of-clause-bad
returns-in_default-front_of-clause-bad c =
    inr (
      omega (arith, c.if-line-gt-LINE_LIMIT.false),
      sym c.if-is_skipped.ensures,
      later (a_number c.in-Some.client) c.in-Some.rest.now (c.args.line.now, refl, c.in-Some.ensures.found) (when_true _ (command c.args.header.now) (le-leb c.in-Some.client client_limit c.in-Some.ensures.within)) (missing c.in_default-front_of.ensures.none refl refl),
    )

pub returns-in_err-op-clause-bad : goal.returns-in_err-op-clause-bad
returns-in_err-op-clause-bad c =
    exit c.from_residual.result c.in_err-op.field-0.0 _ c.from_residual.ensures.1
    (stops_more (Refused (command c.args.header.now) (0x20 ∷ c.in-Some-front_of.front.now)) (RefusedLine c.args.header.now c.args.line.now) c.in_err-op.field-0.0
    (λ kind r. inr (
      omega (arith, c.if-line-gt-LINE_LIMIT.false),
      sym c.if-is_skipped.ensures,
      later (a_number c.in-Some.client) c.in-Some.rest.now (c.args.line.now, refl, c.in-Some.ensures.found) (when_true _ (command c.args.header.now) (le-leb c.in-Some.client client_limit c.in-Some.ensures.within)) (rw c.in-Some-front_of.ensures.found r),
    ))
    c.in_err-op.ensures.bad)
