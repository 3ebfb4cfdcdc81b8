use Rattle.std.proofs.Common.{refl, inl, ◌∷◌, [], arith}
use Rattle.tl_kind.specs.declared.word.Word.TheVariants as word
use Rattle.tl_kind.specs.Written.{a_number}
use Rattle.tl_kind.specs.Refusals.{inner, number}
use Rattle.tl_kind.proofs.Steps.{exit, stops_next, stops_later, stops_end, stops_space, stops_after_space, number_part}
use Rattle.tl_kind.proofs.expression.input.Goals as goal

pub returns-in_err-expect-clause-bad : goal.returns-in_err-expect-clause-bad
returns-in_err-expect-clause-bad c =
    exit c.from_residual.result c.in_err-expect.field-0.0 _ c.from_residual.ensures.1
    (stops_next (inner word.Input) 0 c.args.room c.args.cursor.now.rest.now c.expect.new.cursor.rest.now c.in_err-expect.field-0.0 number refl refl (stops_space number c.args.room c.args.cursor.now.rest.now c.expect.new.cursor.rest.now c.in_err-expect.field-0.0 c.in_err-expect.ensures.bad))

pub returns-in_err-number-clause-bad : goal.returns-in_err-number-clause-bad
returns-in_err-number-clause-bad c =
    exit c.from_residual-in_err-number.result c.in_err-number.field-0.0 _ c.from_residual-in_err-number.ensures.1
    (stops_next (inner word.Input) 0 c.args.room c.args.cursor.now.rest.now c.number.new.cursor.rest.now c.in_err-number.field-0.0 number refl refl
    (stops_after_space number c.args.room c.args.cursor.now.rest.now c.expect.new.cursor.rest.now c.number.new.cursor.rest.now c.in_err-number.field-0.0 c.in_ok-expect.ensures.found (c.in_err-number.ensures.bad c.args.room)))

pub returns-in_err-expect-2-clause-bad : goal.returns-in_err-expect-2-clause-bad
returns-in_err-expect-2-clause-bad c =
    exit c.from_residual-in_err-expect-2.result c.in_err-expect-2.field-0.0 _ c.from_residual-in_err-expect-2.ensures.1
    (stops_later (inner word.Input) 0 c.args.room c.args.cursor.now.rest.now c.expect-2.new.cursor.rest.now c.in_err-expect-2.field-0.0 (a_number c.in_ok-number.number) c.number.new.cursor.rest.now refl
    (number_part c.args.room c.args.cursor.now.rest.now c.expect.new.cursor.rest.now c.in_ok-number.number c.number.new.cursor.rest.now c.in_ok-expect.ensures.found c.in_ok-number.ensures.found)
    (stops_end word.Input 1 c.args.room c.number.new.cursor.rest.now c.expect-2.new.cursor.rest.now c.in_err-expect-2.field-0.0 (inl refl) refl c.in_err-expect-2.ensures.bad))

pub returns-clause-found : goal.returns-clause-found
returns-clause-found c =
    (a_number c.in_ok-number.number ∷ [], c.input.ensures, omega arith, (c.number.new.cursor.rest.now, number_part c.args.room c.args.cursor.now.rest.now c.expect.new.cursor.rest.now c.in_ok-number.number c.number.new.cursor.rest.now c.in_ok-expect.ensures.found c.in_ok-number.ensures.found, c.in_ok-expect-2.ensures.found))
