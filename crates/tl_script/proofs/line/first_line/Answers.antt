use Rattle.std.proofs.lemmas.List.Elements.{recursion_from_All}
use Rattle.tl_script.specs.Lines.{IsOther}
use Rattle.tl_script.proofs.LineLemmas.{lines_of-at, lines_of-one}
use Rattle.tl_script.proofs.line.first_line.Goals as goal

pub returns-in-Some-clause-lines : goal.returns-in-Some-clause-lines
returns-in-Some-clause-lines c = rw c.in-Some.ensures.found.0 (lines_of-at _ _ (recursion_from_All (IsOther 10) _ c.in-Some.ensures.found.1))

pub returns-in-None-clause-lines : goal.returns-in-None-clause-lines
returns-in-None-clause-lines c = lines_of-one c.args.text.now c.requires (recursion_from_All (IsOther 10) _ c.in-None.ensures.none)
