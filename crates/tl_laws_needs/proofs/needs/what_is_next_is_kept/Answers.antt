use Rattle.tl_laws_needs.proofs.Later.{next-is-kept}
use Rattle.tl_laws_needs.proofs.needs.what_is_next_is_kept.Goals as goal

pub returns : goal.returns
returns g c = λ judge header events ok made is. next-is-kept judge header events ok made is
