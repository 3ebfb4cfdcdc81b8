use Rattle.std.proofs.Common.{refl}
use Rattle.tl_script.specs.Places.{missing}
use Rattle.tl_script.proofs.Wrong.{refused_unlisted, refused_full}
use Rattle.tl_script.proofs.job.next_listed.Goals as goal

pub returns-in_default-clause-bad : goal.returns-in_default-clause-bad
returns-in_default-clause-bad c = λ least word after no_mark. missing c.in_default.ensures.none refl refl

pub returns-in_default-2-clause-bad : goal.returns-in_default-2-clause-bad
returns-in_default-2-clause-bad c = λ least word after no_mark.
    refused_unlisted c.args.limit least c.args.count word after c.args.text.now c.in-Some.front.now c.not_listed.result c.in-Some.ensures.found (rw c.in_default-2.is at c.in_ok-path.ensures.none) no_mark c.not_listed.ensures

pub returns-then-count-limit-clause-bad : goal.returns-then-count-limit-clause-bad
returns-then-count-limit-clause-bad c = λ least word after no_mark.
    refused_full c.args.limit least c.args.count word after c.args.text.now c.in-Some-2.path c.in-Some-2.rest.now (c.in-Some.front.now, c.in-Some.ensures.found, rw c.in-Some-2.is at c.in_ok-path.ensures.found) c.if-count-limit.true no_mark
