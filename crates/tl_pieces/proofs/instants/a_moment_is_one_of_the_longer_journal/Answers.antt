use Rattle.tl_pieces.proofs.Longer.{moment-later}
use Rattle.tl_pieces.proofs.instants.a_moment_is_one_of_the_longer_journal.Goals as goal

pub returns : goal.returns
returns g c = λ s is_so before after more m. moment-later s is_so before after more m
