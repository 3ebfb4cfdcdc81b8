use Rattle.std.proofs.lemmas.Nat.{one_shl}
use Rattle.tl_numbers.proofs.Bits.{last-below, none-below}
use Rattle.tl_numbers.proofs.word.highest_below.Goals as goal

pub returns-then-below-eq0 : goal.returns-then-below-eq0
returns-then-below-eq0 c = none-below c.args.word c.args.n (rw (one_shl c.args.n 64 c.requires) at c.if-below-eq0.true)

pub returns-else-below-eq0 : goal.returns-else-below-eq0
returns-else-below-eq0 c = last-below c.args.word c.args.n c.highest.result c.requires (rw (one_shl c.args.n 64 c.requires) at c.highest.ensures)
