use Rattle.tl_spelling.proofs.OneEvent.{says_itself}
use Rattle.tl_spelling.proofs.laws.as_in_a_script.Goals as goal

pub returns : goal.returns
returns c = says_itself
