use Rattle.tl_lang.proofs.MeanLaws.{length-mean}
use Rattle.tl_lang.proofs.laws.one_outcome_each.Goals as goal

pub returns : goal.returns
returns c = length-mean c.args._program.now
