use Rattle.std.proofs.Common.{arith}
use Rattle.std.proofs.lemmas.List.{nil_from_length}
use Rattle.tl_text.proofs.Numbers.{refused_empty}
use Rattle.tl_text.proofs.SignedNumbers.{refused_positive}
use Rattle.tl_text.proofs.signed.signed_front.Goals as goal

pub returns-in-empty-clause-bad : goal.returns-in-empty-clause-bad
returns-in-empty-clause-bad c = refused_positive c.args.text.now 0 (λ lt. absurd (omega arith)) (refused_empty 9223372036854775807 c.args.text.now (omega arith) (nil_from_length c.args.text.now (omega arith)))

pub returns-in-Err-number_front-clause-bad : goal.returns-in-Err-number_front-clause-bad
returns-in-Err-number_front-clause-bad c =
    refused_positive c.args.text.now c.in-Err-number_front.place (λ lt e. omega arith) c.in-Err-number_front.ensures.bad
