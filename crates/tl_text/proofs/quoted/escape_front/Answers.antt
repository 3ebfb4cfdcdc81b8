use Rattle.std.proofs.Common.{arith}
use Rattle.tl_text.proofs.Items.{begins_backslash, refused_escape}
use Rattle.tl_text.proofs.quoted.escape_front.Goals as goal

pub returns-in_default-clause-begins : goal.returns-in_default-clause-begins
returns-in_default-clause-begins c = begins_backslash

pub returns-in_default-clause-bad : goal.returns-in_default-clause-bad
returns-in_default-clause-bad c = refused_escape c.args.escape.now (λ lt. absurd (omega arith))

pub returns-in_default-2-clause-begins : goal.returns-in_default-2-clause-begins
returns-in_default-2-clause-begins c = begins_backslash

pub returns-in_default-2-clause-bad : goal.returns-in_default-2-clause-bad
returns-in_default-2-clause-bad c = refused_escape c.args.escape.now (λ lt h. omega (arith, h))
