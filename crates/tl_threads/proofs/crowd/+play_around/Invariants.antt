use Rattle.std.proofs.Common.{vec_len}
use Rattle.tl_threads.proofs.crowd.+play_around.Given as goal

abbrev pub decreases-play_around : goal.decreases-play_around
decreases-play_around g l = vec_len l.crew
