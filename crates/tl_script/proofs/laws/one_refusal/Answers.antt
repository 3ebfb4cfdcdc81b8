use Rattle.tl_script.proofs.Scripts.{same_refusal}
use Rattle.tl_script.proofs.laws.one_refusal.Goals as goal

pub returns : goal.returns
returns c = λ lines at at' kind kind' h k. same_refusal lines at at' kind kind' h k
