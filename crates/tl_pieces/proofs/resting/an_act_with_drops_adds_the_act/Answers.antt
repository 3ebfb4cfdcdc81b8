use Rattle.tl_pieces.proofs.Dropping.{act-adds}
use Rattle.tl_pieces.proofs.resting.an_act_with_drops_adds_the_act.Goals as goal

pub returns : goal.returns
returns g c = λ s act drops events kept. act-adds s act drops events kept
