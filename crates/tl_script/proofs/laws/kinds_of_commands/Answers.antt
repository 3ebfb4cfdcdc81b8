use Rattle.tl_script.proofs.CommandKinds.{command_kinds}
use Rattle.tl_script.proofs.laws.kinds_of_commands.Goals as goal

pub returns : goal.returns
returns c = λ header bytes kind refused. command_kinds header bytes kind refused
