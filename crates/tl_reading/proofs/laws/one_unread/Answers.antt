use Rattle.tl_reading.proofs.Fewer.{one_unread}
use Rattle.tl_reading.proofs.laws.one_unread.Goals as goal

pub returns : goal.returns
returns c = one_unread
