use Rattle.std.proofs.Common.{◌≡◌, [], arith, length}
use Rattle.tl_reading.proofs.Standing.{digest_is, digest_size}
use Rattle.tl_reading.proofs.token.digest_last.Goals as goal

pub returns-in_default-clause-none : goal.returns-in_default-clause-none
returns-in_default-clause-none c = λ digest is e. c.in_default.ensures.only digest.0 [] (digest_is digest c.args.text.now is e)

pub returns-then-end-text-clause-none : goal.returns-then-end-text-clause-none
returns-then-end-text-clause-none c = λ digest is e.
    let size : length c.args.text.now ≡ 64 = digest_size digest c.args.text.now is e in omega (arith, c.in-Ok.ensures.place, size)
