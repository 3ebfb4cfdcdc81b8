use Rattle.std.proofs.Common.{refl, inr, arith}
use Rattle.tl_script.specs.Places.{missing, wrong}
use Rattle.tl_script.proofs.Wrong.{wrong_program, refused_many}
use Rattle.tl_script.proofs.job.program.Goals as goal

pub returns-in_default-clause-bad : goal.returns-in_default-clause-bad
returns-in_default-clause-bad c = λ reads makes. missing c.in_default.ensures.none refl refl

pub returns-in-Err-Bad-clause-bad : goal.returns-in-Err-Bad-clause-bad
returns-in-Err-Bad-clause-bad c = λ reads makes.
    let never = rw c.in-Err-Bad.field-0-is at c.in-Err-Bad.ensures.only in
    wrong c.in-Some.front.now c.in-Some.ensures.found (wrong_program c.args.version reads makes c.in-Some.front.now (λ p rest of kept h. never p h.0)) (inr (λ h. never h.0 h.1, refl))

pub returns-then-len-output_limit-clause-bad : goal.returns-then-len-output_limit-clause-bad
returns-then-len-output_limit-clause-bad c = λ reads makes.
    refused_many c.args.version reads makes c.args.text.now c.in-Some.front.now c.in-Ok.program c.in-Some.ensures.found c.in-Ok.ensures.found (omega (arith, c.len.ensures, c.output_limit.ensures, c.if-len-output_limit.true))
