use Rattle.tl_kind.proofs.Tokens.{refused_signed}
use Rattle.tl_kind.proofs.token.signed.Goals as goal

pub returns-in-Err-Bad-clause-bad : goal.returns-in-Err-Bad-clause-bad
returns-in-Err-Bad-clause-bad c =
    refused_signed c.args.cursor.now.rest.now c.refuse.new.cursor.rest.now c.refuse.result c.in-Err-Bad.at c.in-Err-Bad.field-0-1 c.requires (rw c.in-Err-Bad.field-0-is at c.in-Err-Bad.ensures.bad) c.refuse.ensures.stop c.refuse.ensures.rest
