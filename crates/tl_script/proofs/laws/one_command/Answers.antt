use Rattle.tl_script.proofs.Unique.{same_command}
use Rattle.tl_script.proofs.laws.one_command.Goals as goal

pub returns : goal.returns
returns c = λ header bytes op other w h k. same_command header bytes op other w h k
