use Rattle.tl_steps.proofs.Saving.{saved-stays-as}
use Rattle.tl_steps.proofs.laws.what_is_saved_stays_so.Goals as goal

pub returns : goal.returns
returns g c = λ judge header more past ok f it is. saved-stays-as judge header more past ok f it is
