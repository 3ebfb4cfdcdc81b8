use Rattle.std.proofs.Common.{length}
use Rattle.tl_lang.proofs.conf.+test_keys.Given as goal

abbrev pub decreases-test_keys : goal.decreases-test_keys
decreases-test_keys l = length l.pairs.now
