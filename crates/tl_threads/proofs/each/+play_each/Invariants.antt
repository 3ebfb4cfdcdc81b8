use Rattle.std.proofs.Common.{vec_len}
use Rattle.tl_threads.proofs.each.+play_each.Given as goal

abbrev pub decreases-play_each : goal.decreases-play_each
decreases-play_each g l = vec_len l.parts
