use Rattle.tl_spelling.proofs.OneEvent.{one_event}
use Rattle.tl_spelling.proofs.laws.one_event.Goals as goal

pub returns : goal.returns
returns c = one_event
