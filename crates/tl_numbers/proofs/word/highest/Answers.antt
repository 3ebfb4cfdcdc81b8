use Rattle.tl_numbers.proofs.Bits.{highest-last}
use Rattle.tl_numbers.proofs.word.highest.Goals as goal

pub returns : goal.returns
returns c = highest-last c.args.word c.requires c.ranges.word.fits
