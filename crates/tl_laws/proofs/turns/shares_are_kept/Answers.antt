use Rattle.tl_laws.proofs.Shares.{claimed-shares}
use Rattle.tl_laws.proofs.turns.shares_are_kept.Goals as goal

pub returns : goal.returns
returns g c = λ judge header event past ok order worker made other act runs. claimed-shares judge header event past ok order worker made other act runs
