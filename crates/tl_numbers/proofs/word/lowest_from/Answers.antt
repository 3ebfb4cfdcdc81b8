use Rattle.std.proofs.Common.{◌≤◌, arith}
use Rattle.std.proofs.lemmas.Nat.Bits.{ones_shl}
use Rattle.tl_numbers.proofs.Bits.{first-from, none-from}
use Rattle.tl_numbers.proofs.word.lowest_from.Goals as goal

pub returns-then-from-eq0-clause-first : goal.returns-then-from-eq0-clause-first
returns-then-from-eq0-clause-first c =
    let within : c.args.n ≤ 64 = omega arith in
    none-from c.args.word c.args.n c.ranges.word.fits (rw (ones_shl 64 c.args.n within) at c.if-from-eq0.true)

pub returns-else-from-eq0-clause-first : goal.returns-else-from-eq0-clause-first
returns-else-from-eq0-clause-first c =
    let within : c.args.n ≤ 64 = omega arith in
    first-from c.args.word c.args.n c.lowest.result c.lowest.ensures.within (rw (ones_shl 64 c.args.n within) at c.lowest.ensures.first)
