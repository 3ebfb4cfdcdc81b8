use Rattle.std.proofs.Common.{refl, inl, ◌∷◌, [], arith}
use Rattle.tl_kind.specs.declared.word.Word.TheVariants as word
use Rattle.tl_kind.specs.Written.{a_quote}
use Rattle.tl_kind.specs.Refusals.{inner, quoted_text}
use Rattle.tl_kind.proofs.Steps.{exit, stops_next, stops_later, stops_end, stops_space, stops_after_space, quote_part}
use Rattle.tl_kind.proofs.expression.key.Goals as goal

pub returns-in_err-expect-clause-bad : goal.returns-in_err-expect-clause-bad
returns-in_err-expect-clause-bad c =
    exit c.from_residual.result c.in_err-expect.field-0.0 _ c.from_residual.ensures.1
    (stops_next (inner word.Key) 0 c.args.room c.args.cursor.now.rest.now c.expect.new.cursor.rest.now c.in_err-expect.field-0.0 quoted_text refl refl (stops_space quoted_text c.args.room c.args.cursor.now.rest.now c.expect.new.cursor.rest.now c.in_err-expect.field-0.0 c.in_err-expect.ensures.bad))

pub returns-in_err-bytes-clause-bad : goal.returns-in_err-bytes-clause-bad
returns-in_err-bytes-clause-bad c =
    exit c.from_residual-in_err-bytes.result c.in_err-bytes.field-0.0 _ c.from_residual-in_err-bytes.ensures.1
    (stops_next (inner word.Key) 0 c.args.room c.args.cursor.now.rest.now c.quoted.new.cursor.rest.now c.in_err-bytes.field-0.0 quoted_text refl refl
    (stops_after_space quoted_text c.args.room c.args.cursor.now.rest.now c.expect.new.cursor.rest.now c.quoted.new.cursor.rest.now c.in_err-bytes.field-0.0 c.in_ok-expect.ensures.found (c.in_err-bytes.ensures.bad c.args.room)))

pub returns-in_err-expect-2-clause-bad : goal.returns-in_err-expect-2-clause-bad
returns-in_err-expect-2-clause-bad c =
    exit c.from_residual-in_err-expect-2.result c.in_err-expect-2.field-0.0 _ c.from_residual-in_err-expect-2.ensures.1
    (stops_later (inner word.Key) 0 c.args.room c.args.cursor.now.rest.now c.expect-2.new.cursor.rest.now c.in_err-expect-2.field-0.0 (a_quote c.in_ok-bytes.bytes) c.quoted.new.cursor.rest.now refl
    (quote_part c.args.room c.args.cursor.now.rest.now c.expect.new.cursor.rest.now c.in_ok-bytes.bytes c.quoted.new.cursor.rest.now c.in_ok-expect.ensures.found c.in_ok-bytes.ensures.found)
    (stops_end word.Key 1 c.args.room c.quoted.new.cursor.rest.now c.expect-2.new.cursor.rest.now c.in_err-expect-2.field-0.0 (inl refl) refl c.in_err-expect-2.ensures.bad))

pub returns-clause-found : goal.returns-clause-found
returns-clause-found c =
    (a_quote c.in_ok-bytes.bytes ∷ [], c.key.ensures, omega arith, (c.quoted.new.cursor.rest.now, quote_part c.args.room c.args.cursor.now.rest.now c.expect.new.cursor.rest.now c.in_ok-bytes.bytes c.quoted.new.cursor.rest.now c.in_ok-expect.ensures.found c.in_ok-bytes.ensures.found, c.in_ok-expect-2.ensures.found))
