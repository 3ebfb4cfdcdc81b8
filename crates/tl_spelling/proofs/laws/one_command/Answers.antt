use Rattle.tl_spelling.proofs.OneEvent.{one_command}
use Rattle.tl_spelling.proofs.laws.one_command.Goals as goal

pub returns : goal.returns
returns c = one_command
