use Rattle.std.proofs.Common.{length}
use Rattle.tl_names.proofs.makes.+make_files.Given as goal

abbrev pub decreases-make_files : goal.decreases-make_files
decreases-make_files l = length l.paths.now
