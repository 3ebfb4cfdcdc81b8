use Rattle.std.proofs.Common.{sym, ◌∙◌, []}
use Rattle.std.proofs.lemmas.Int.{to_z-of_z}
use mir.Syntax.{w64}
use Rattle.tl_eval.proofs.Pieces.{spells_number, spells_none, whole_spelling, all_spelled}
use Rattle.tl_eval.proofs.texts.num.Goals as goal

pub returns-else-end-bytes : goal.returns-else-end-bytes
returns-else-end-bytes c =
    let found = c.in-Ok.ensures.found in
    rw (to_z-of_z w64 c.in-Ok.number found.fits)
    (spells_number c.args.text.now c.in-Ok.number found.fits (sym c.as_slice-bytes.ensures.value ∙ all_spelled c.as_slice-bytes.result.now c.in-Ok.number c.in-Ok.end found.spelled c.if-end-bytes.false))

pub returns-in-Err : goal.returns-in-Err
returns-in-Err c =
    spells_none c.args.text.now (λ n fits is.
    let other = c.in-Err.ensures.only n [] (whole_spelling c.as_slice-bytes.result.now n fits (c.as_slice-bytes.ensures.value ∙ is)) in
    cc)
