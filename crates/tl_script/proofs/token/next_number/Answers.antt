use Rattle.std.proofs.Common.{refl}
use Rattle.tl_script.specs.Places.{missing, wrong}
use Rattle.tl_script.proofs.Wrong.{wrong_number}
use Rattle.tl_script.proofs.token.next_number.Goals as goal

pub returns-in_default-clause-bad : goal.returns-in_default-clause-bad
returns-in_default-clause-bad c = λ after. missing c.in_default.ensures.none refl refl

pub returns-in-None-clause-bad : goal.returns-in-None-clause-bad
returns-in-None-clause-bad c = λ after. wrong c.in-Some.front.now c.in-Some.ensures.found (wrong_number c.args.low c.args.below after c.in-Some.front.now c.in-None.ensures.none) refl
