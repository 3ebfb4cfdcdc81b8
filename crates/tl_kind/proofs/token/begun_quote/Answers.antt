use Rattle.std.proofs.Common.{◌≡◌, Bool, true, false, arith}
use Rattle.tl_kind.proofs.Tokens.{refused_quoted, length-quoted}
use Rattle.tl_kind.proofs.token.begun_quote.Goals as goal

pub returns-in-Err-Bad-clause-bad : goal.returns-in-Err-Bad-clause-bad
returns-in-Err-Bad-clause-bad c =
    refused_quoted c.args.cursor.now.rest.now c.refuse.new.cursor.rest.now c.refuse.result c.in-Err-Bad.at c.in-Err-Bad.field-0-1 c.requires (rw c.in-Err-Bad.field-0-is at c.in-Err-Bad.ensures.bad) c.refuse.ensures.stop c.refuse.ensures.rest

pub unreachable-requires : goal.unreachable-requires
unreachable-requires c =
    let no : ◌≡◌ {A = Bool} false true = c.in-None.ensures.valid.1 (omega (arith, length-quoted c.args.cursor.now.rest.now c.in-Ok.bytes.items _ c.in-Ok.ensures.found, c.args.cursor.now.short)) in cc
