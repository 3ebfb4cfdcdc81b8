use Rattle.tl_pieces.proofs.Longer.{moment-since}
use Rattle.tl_pieces.proofs.instants.a_moment_is_one_after_others_events.Goals as goal

pub returns : goal.returns
returns g c = λ s is_so earlier before after a m. moment-since s is_so earlier before after a m
