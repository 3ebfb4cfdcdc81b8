use Rattle.std.proofs.Common.{sym}
use Rattle.tl_kind.proofs.Tokens.{refused_no_digit, refused_number}
use Rattle.tl_kind.proofs.token.number.Goals as goal

pub returns-then-not-begins_with_digit-clause-bad : goal.returns-then-not-begins_with_digit-clause-bad
returns-then-not-begins_with_digit-clause-bad c = refused_no_digit c.args.cursor.now.rest.now c.refused_first.result (sym c.if-not-begins_with_digit.ensures) c.refused_first.ensures

pub returns-in-Err-Bad-clause-bad : goal.returns-in-Err-Bad-clause-bad
returns-in-Err-Bad-clause-bad c =
    refused_number c.args.cursor.now.rest.now c.refuse.new.cursor.rest.now c.refuse.result c.in-Err-Bad.at c.in-Err-Bad.field-0-1 (sym c.if-not-begins_with_digit.ensures) (rw c.in-Err-Bad.field-0-is at c.in-Err-Bad.ensures.bad) c.refuse.ensures.stop c.refuse.ensures.rest
