use Rattle.tl_laws_needs.proofs.Later.{needed-is-kept}
use Rattle.tl_laws_needs.proofs.needs.needed_are_kept.Goals as goal

pub returns : goal.returns
returns g c = λ judge header events ok made needed. needed-is-kept judge header events ok made needed
