use Rattle.tl_script.proofs.Scripts.{never_refused}
use Rattle.tl_script.proofs.laws.a_script_is_not_refused.Goals as goal

pub returns : goal.returns
returns c = λ lines header entries at kind h refused. never_refused lines header entries at kind h refused
