use Rattle.tl_model.specs.History.{calls_of}
use Rattle.tl_laws_values.proofs.Told.{outcome-stays}
use Rattle.tl_laws_values.proofs.values_stay.Goals as goal

pub returns : goal.returns
returns c = λ past event f h. outcome-stays event.actor event.act (calls_of past) f h
