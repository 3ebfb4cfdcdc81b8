use Rattle.std.proofs.Common.{[], ap, length, arith, inr}
use Rattle.tl_kind.proofs.Programs.{shorter, rest_at}
use Rattle.tl_kind.proofs.Never.{never_text, whole_program, one_whole}
use Rattle.tl_kind.proofs.parsing.parse.Goals as goal

pub overflow_sub-result : goal.overflow_sub-result
overflow_sub-result c = shorter (rw c.in-Err-Refused.field-0-is at c.in-Err-Refused.ensures.bad)

pub returns-in-Err-Refused-clause-bad : goal.returns-in-Err-Refused-clause-bad
returns-in-Err-Refused-clause-bad c = inr (c.if-text-gt-TEXT_LIMIT.false, omega arith, rest_at c.args.text.now c.program.new.cursor.rest.now c.in-Err-Refused.kind (rw c.in-Err-Refused.field-0-is at c.in-Err-Refused.ensures.bad))

pub returns-then-text-gt-TEXT_LIMIT-clause-only : goal.returns-then-text-gt-TEXT_LIMIT-clause-only
returns-then-text-gt-TEXT_LIMIT-clause-only c = λ program h. omega (arith, c.if-text-gt-TEXT_LIMIT.true, ap length h.spelled, h.limits.short)

pub returns-in-Ok-clause-only : goal.returns-in-Ok-clause-only
returns-in-Ok-clause-only c = λ program h. (one_whole c.args.text.now [] [] c.in-Ok.program program c.in-Ok.ensures.found (whole_program c.args.text.now program h)).0

pub returns-in-Err-Refused-clause-only : goal.returns-in-Err-Refused-clause-only
returns-in-Err-Refused-clause-only c = λ program h. never_text (rw c.in-Err-Refused.field-0-is at c.in-Err-Refused.ensures.bad) program (whole_program c.args.text.now program h)
