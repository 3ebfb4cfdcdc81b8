use Rattle.std.proofs.Common.{sym, subst}
use Rattle.tl_lang.specs.Kinds.{KindsHold}
use Rattle.tl_lang.proofs.CheckedLaws.{IsOutcome-mean}
use Rattle.tl_lang.proofs.laws.checked_programs_end_well.Goals as goal

pub returns : goal.returns
returns c conf inputs fuel many =
    let checked = c.args.checked.now in
    IsOutcome-mean checked.program checked.outputs conf inputs fuel
    (subst (λ n. KindsHold checked.program n checked.outputs) (sym many) c.program-program.ensures.kinds)
