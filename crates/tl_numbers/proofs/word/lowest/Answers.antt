use Rattle.tl_numbers.proofs.Bits.{lowest-first}
use Rattle.tl_numbers.proofs.word.lowest.Goals as goal

pub returns-clause-first : goal.returns-clause-first
returns-clause-first c = lowest-first c.args.word c.requires c.ranges.word.fits
