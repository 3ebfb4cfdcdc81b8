use Rattle.std.proofs.Common.{◌/◌, ◌∙◌, ap, ℕ}
use Rattle.std.specs.Int.{bit_at}
use Rattle.std.proofs.lemmas.List.{get_or_default}
use Rattle.tl_numbers.proofs.Rows.{mark-test, written-here, written-mark, written-marks, written-others}
use Rattle.tl_numbers.proofs.words.write.Goals as goal

pub returns-clause-here : goal.returns-clause-here
returns-clause-here c =
    let items = c.args.words.now.items in
    written-here items c.args.n c.with_bit-word.result c.requires ∙ c.with_bit-word.ensures.here

pub returns-clause-others : goal.returns-clause-others
returns-clause-others c =
    let items = c.args.words.now.items in
    written-others items c.args.n c.with_bit-word.result c.requires
    (λ k small differs.
    c.with_bit-word.ensures.others k small differs
    ∙ ap (λ (w : ℕ). bit_at w k) (c.index.ensures ∙ get_or_default items (c.args.n / 64) c.index.result.now 0 c.requires))

pub returns-clause-mark : goal.returns-clause-mark
returns-clause-mark c =
    let items = c.args.words.now.items in
    written-mark items c.args.n c.with_bit-word.result c.requires ∙ mark-test c.with_bit-word.result

pub returns-clause-marks : goal.returns-clause-marks
returns-clause-marks c =
    let items = c.args.words.now.items in
    written-marks items c.args.n c.with_bit-word.result c.requires
