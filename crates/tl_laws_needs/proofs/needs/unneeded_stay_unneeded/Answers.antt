use Rattle.tl_laws_needs.proofs.Later.{never-needed}
use Rattle.tl_laws_needs.proofs.needs.unneeded_stay_unneeded.Goals as goal

pub returns : goal.returns
returns g c = λ judge header later events ok made there unneeded. (never-needed judge header later events ok made (there, unneeded)).1
