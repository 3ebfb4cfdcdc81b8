use Rattle.std.proofs.Common.{[]}
use Rattle.tl_words.proofs.Digits.{ends_there, is_number}
use Rattle.tl_words.proofs.number.number_of.Goals as goal

pub returns-in_default-clause-only : goal.returns-in_default-clause-only
returns-in_default-clause-only c n small e = absurd (c.in_default.not-Ok _ (c.read_number.ensures.only n [] (is_number _ _ n c.as_bytes.ensures.value e small)))

pub returns-else-end-word-clause-only : goal.returns-else-end-word-clause-only
returns-else-end-word-clause-only c n small e =
    absurd (c.if-end-word.false (ends_there _ n _ _ _ (c.read_number.ensures.only n [] (is_number _ _ n c.as_bytes.ensures.value e small)) c.in-Ok.is e))
