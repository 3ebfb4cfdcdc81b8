use Rattle.std.proofs.Common.{◌≡◌, [], refl, sym, subst, arith}
use Rattle.std.proofs.lemmas.Bool.{eqb-false, eqb-true}
use Rattle.std.proofs.lemmas.List.{nil_from_length}
use Rattle.tl_kind.specs.Refusals.{trailing, IsWhole}
use Rattle.tl_kind.proofs.Steps.{exit}
use Rattle.tl_kind.proofs.Programs.{refused_no_form, refused_in_outputs, whole}
use Rattle.tl_kind.proofs.parsing.program.Goals as goal

pub returns-in_err-expect-clause-bad : goal.returns-in_err-expect-clause-bad
returns-in_err-expect-clause-bad c = exit c.from_residual.result c.in_err-expect.field-0.0 _ c.from_residual.ensures.1 (refused_no_form c.args.cursor.now.rest.now c.expect.new.cursor.rest.now c.in_err-expect.field-0.0 c.in_err-expect.ensures.bad)

pub returns-in_err-outputs-clause-bad : goal.returns-in_err-outputs-clause-bad
returns-in_err-outputs-clause-bad c =
    exit c.from_residual-in_err-outputs.result c.in_err-outputs.field-0.0 _ c.from_residual-in_err-outputs.ensures.1
    (refused_in_outputs c.args.cursor.now.rest.now c.expect.new.cursor.rest.now c.job_word.new.cursor.rest.now c.outputs.new.cursor.rest.now c.in_err-outputs.field-0.0 c.in_ok-expect.ensures.found c.in_ok-job_word.ensures.found c.in_err-outputs.ensures.bad)

pub returns-then-not-is_empty-clause-bad : goal.returns-then-not-is_empty-clause-bad
returns-then-not-is_empty-clause-bad c =
    trailing (record { outputs = c.in_ok-outputs.outputs.items })
    (whole c.args.cursor.now.rest.now c.expect.new.cursor.rest.now c.job_word.new.cursor.rest.now c.outputs.new.cursor.rest.now (record { outputs = c.in_ok-outputs.outputs.items }) c.in_ok-outputs.outputs.items c.in_ok-expect.ensures.found c.in_ok-job_word.ensures.found c.in_ok-outputs.ensures.found refl)
    (omega (arith, eqb-false _ 0 (sym c.if-not-is_empty.ensures)))

pub returns-clause-found : goal.returns-clause-found
returns-clause-found c =
    let none : c.outputs.new.cursor.rest.now ≡ [] = nil_from_length c.outputs.new.cursor.rest.now (eqb-true _ 0 (sym c.if-not-is_empty.ensures)) in
    subst (λ rest. IsWhole c.args.cursor.now.rest.now (record { outputs = c.from_vec.result }) rest) none
    (whole c.args.cursor.now.rest.now c.expect.new.cursor.rest.now c.job_word.new.cursor.rest.now c.outputs.new.cursor.rest.now (record { outputs = c.from_vec.result }) c.in_ok-outputs.outputs.items c.in_ok-expect.ensures.found c.in_ok-job_word.ensures.found c.in_ok-outputs.ensures.found c.from_vec.ensures)
