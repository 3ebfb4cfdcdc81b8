use Rattle.std.proofs.Common.{arith}
use Rattle.tl_text.proofs.Items.{refused_first}
use Rattle.tl_text.proofs.quoted.item_front.Goals as goal

pub returns-in-len1-up-clause-bad : goal.returns-in-len1-up-clause-bad
returns-in-len1-up-clause-bad c = refused_first c.args.text.now (λ lt h. omega (arith, h))

pub returns-in-len1-up-2-clause-bad : goal.returns-in-len1-up-2-clause-bad
returns-in-len1-up-2-clause-bad c = refused_first c.args.text.now (λ lt h. omega (arith, h))

pub returns-in-empty-clause-bad : goal.returns-in-empty-clause-bad
returns-in-empty-clause-bad c = refused_first c.args.text.now (λ lt. absurd (omega arith))

pub returns-in-empty-2-clause-bad : goal.returns-in-empty-2-clause-bad
returns-in-empty-2-clause-bad c = refused_first c.args.text.now (λ lt h. omega (arith, h))
