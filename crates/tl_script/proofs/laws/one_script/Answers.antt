use Rattle.tl_script.proofs.Scripts.{same_script}
use Rattle.tl_script.proofs.laws.one_script.Goals as goal

pub returns : goal.returns
returns c = λ lines header header' entries entries' h k. same_script lines header header' entries entries' h k
