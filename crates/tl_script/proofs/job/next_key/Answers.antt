use Rattle.std.proofs.Common.{refl, sym, ◌∙◌}
use Rattle.tl_script.specs.Places.{missing, wrong}
use Rattle.tl_script.specs.Reading.{keys_of}
use Rattle.tl_script.proofs.Wrong.{wrong_key, refused_repeated}
use Rattle.tl_script.proofs.Confs.{keys_test}
use Rattle.tl_script.proofs.job.next_key.Goals as goal

pub returns-in_default-clause-bad : goal.returns-in_default-clause-bad
returns-in_default-clause-bad c = λ version. missing c.in_default.ensures.none refl refl

pub returns-in_default-2-clause-bad : goal.returns-in_default-2-clause-bad
returns-in_default-2-clause-bad c = λ version.
    let none = rw c.in_default-2.is at c.in_ok-key.ensures.none in
    wrong c.in-Some.front.now c.in-Some.ensures.found (wrong_key version (keys_of c.args.pairs.now) c.in-Some.front.now (λ s rest short fresh h. none s rest short h)) refl

pub returns-then-has_key-clause-bad : goal.returns-then-has_key-clause-bad
returns-then-has_key-clause-bad c = λ version.
    let had = rw c.as_slice.ensures.value at c.if-has_key.ensures in
    refused_repeated version (keys_of c.args.pairs.now) c.args.text.now c.in-Some-2.key c.in-Some-2.rest.now (c.in-Some.front.now, c.in-Some.ensures.found, rw c.in-Some-2.is at c.in_ok-key.ensures.found) (sym (had ∙ keys_test c.args.pairs.now c.in-Some-2.key))

pub returns-clause-fresh : goal.returns-clause-fresh
returns-clause-fresh c =
    let had = rw c.as_slice.ensures.value at c.if-has_key.ensures in
    sym (had ∙ keys_test c.args.pairs.now c.in-Some-2.key)
