use Rattle.std.proofs.Common.{rules, SFits}
use mir.Syntax.{w64}
use Rattle.tl_eval.proofs.Pieces.{spelled_as}
use Rattle.tl_eval.proofs.numbers.str.Goals as goal

pub returns : goal.returns
returns c = let fits : SFits w64 c.args.number.now = search rules in spelled_as _ _ _ _ fits c.new-spelling.ensures.items c.in_ok-print_signed.ensures.ok c.text_of.ensures
